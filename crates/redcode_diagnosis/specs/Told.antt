-- The refusals that are reported for a source.
use Rattle.std.specs.{Prelude.{◌≡◌, ◌≤◌, ℕ, Bool, true, false, nat_eq, List, [], ◌∷◌, ◌++◌, length, map, Result, Ok, Err}, List.IsDistinct}
use Rattle.war_types.specs.{declared.fault.AsmKind.AsmKind, declared.fault.AsmFault.AsmFault, declared.settings.RawSettings.RawSettings, Warrior.WarriorParts}
use Rattle.redcode_scene.specs.Faults.{faults_of}

-- a fault before others
abbrev pub IsFirst : AsmFault → List AsmFault → Type 0
IsFirst fault faults = (others : List AsmFault) × (faults ≡ fault ∷ others)

-- none if the source gives a warrior, and else first the one that the assembler answers
abbrev pub Tells : List AsmFault → Result WarriorParts AsmFault → Type 0
Tells faults (Ok warrior) = faults ≡ []
Tells faults (Err fault) = IsFirst fault faults

-- memory ran out
abbrev pub is_memory : AsmKind → Bool
is_memory AsmKind.Memory = true
is_memory _ = false

-- a name is defined twice
abbrev pub is_twice : AsmKind → Bool
is_twice AsmKind.DuplicateName = true
is_twice _ = false

-- 100 at most, and no two of one line
abbrev pub AreOnePerLine : List AsmFault → Type 0
AreOnePerLine faults = (length faults ≤ 100) × IsDistinct nat_eq (map (λ fault. fault.line) faults)

-- the faults from this one on are those that are told of the source; if a name is defined twice, others may stand after them
abbrev pub AreAll : RawSettings → List ℕ → AsmFault → Bool → List AsmFault → Type 0
AreAll s source fault false faults = faults ≡ faults_of s source fault
AreAll s source fault true faults = (others : List AsmFault) × (faults ≡ faults_of s source fault ++ others) × AreOnePerLine faults

-- none if the source gives a warrior, and else all from the one that the assembler answers on
abbrev pub TellsAll : RawSettings → List ℕ → List AsmFault → Result WarriorParts AsmFault → Type 0
TellsAll s source faults (Ok warrior) = faults ≡ []
TellsAll s source faults (Err fault) = AreAll s source fault (is_twice fault.kind) faults

-- the faults of a source from this one on, which is not that memory ran out
abbrev pub AreToldFrom : RawSettings → List ℕ → AsmFault → List AsmFault → Type 0
AreToldFrom s source fault faults = (is_memory fault.kind ≡ false) × AreAll s source fault (is_twice fault.kind) faults
