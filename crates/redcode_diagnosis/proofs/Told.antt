-- The faults that are told, for `diagnose` and what it calls.
use Rattle.std.proofs.Common.{◌≡◌, ◌∙◌, ℕ, List, ◌++◌, Bool, true, false, Result, Ok, Err, IfOk, ap, sym, subst}
use Rattle.war_types.specs.{declared.fault.AsmFault.AsmFault, declared.settings.RawSettings.RawSettings, Warrior.WarriorParts}
use Rattle.redcode_scene.proofs.First.{first-of}
use Rattle.redcode_diagnosis.specs.Told.{AreAll, AreToldFrom, IsFirst, Tells, TellsAll, is_memory, is_twice}

-- ---- all that are told begin with the one that the assembler answers

all-first : (s : RawSettings) (source : List ℕ) (fault : AsmFault) (twice : Bool) (faults : List AsmFault) → AreAll s source fault twice faults → IsFirst fault faults
all-first s source fault false faults are = let is = first-of s source fault in (is.0, are ∙ is.1)
all-first s source fault true faults are = let is = first-of s source fault in (is.0 ++ are.0, are.1 ∙ ap (λ (fs : List AsmFault). fs ++ are.0) is.1)

tells : (s : RawSettings) (source : List ℕ) (faults : List AsmFault) (due : Result WarriorParts AsmFault) → TellsAll s source faults due → Tells faults due
tells s source faults (Ok warrior) are = are
tells s source faults (Err fault) are = all-first s source fault (is_twice fault.kind) faults are

pub all-tells : {X E : Type 0} (faults : X → List AsmFault) (s : RawSettings) (source : List ℕ) (due : Result WarriorParts AsmFault) (r : Result X E)
    → IfOk r (λ x. TellsAll s source (faults x) due) → IfOk r (λ x. Tells (faults x) due)
all-tells faults s source due (Ok x) are = tells s source (faults x) due are
all-tells faults s source due (Err e) are = are

-- ---- they are all

-- what is known is due
pub told-due : {X E : Type 0} (faults : X → List AsmFault) (known due : List AsmFault) (r : Result X E) → known ≡ due → IfOk r (λ x. faults x ≡ known) → IfOk r (λ x. faults x ≡ due)
told-due faults known due (Ok x) same are = are ∙ same
told-due faults known due (Err e) same are = are

-- by whether a name is defined twice
pub told-from : {X E : Type 0} (faults : X → List AsmFault) (s : RawSettings) (source : List ℕ) (fault : AsmFault) (twice : Bool) (r : Result X E)
    → is_memory fault.kind ≡ false → is_twice fault.kind ≡ twice → IfOk r (λ x. AreAll s source fault twice (faults x))
    → IfOk r (λ x. AreToldFrom s source fault (faults x))
told-from faults s source fault twice (Ok x) known is are = (known, subst (λ (b : Bool). AreAll s source fault b (faults x)) (sym is) are)
told-from faults s source fault twice (Err e) known is are = are
