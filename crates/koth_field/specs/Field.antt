-- A field: the warriors of files, in the order of these.
use Rattle.std.specs.{Prelude.{◌≡◌, ℕ, Bool, true, false, Option, None, Some, List, [], ◌∷◌, ◌++◌, map, All, string_bytes}, List.flat_map, Io.KnownBytes.Keeps}
use Rattle.war_types.specs.{Warrior.WarriorParts, declared.settings.RawSettings.RawSettings}
use Rattle.koth_commands.specs.{Pair.IsWarriorOf, Told.{TellsWord, WritesSome}, Trouble.fault_word, declared.{status.Status.Status, trouble.Fault.Fault}}
use Rattle.koth_contests.specs.{Lines.{Entrant, entrant}, Met.{IsMet, Met, TellsAfter, all_fought}}
use Rattle.koth_field.specs.declared.field.Member.{Member}

-- a member without its place in memory
abbrev pub entrant_of : {A : Type 0} → Member A → Entrant
entrant_of m = entrant (string_bytes m.file) m.warrior

abbrev pub entrants_of : {A : Type 0} → List (Member A) → List Entrant
entrants_of {A} members = map (λ (m : Member A). entrant_of m) members

-- the warrior of a file: nothing if it has none
abbrev pub entrants_at : List ℕ → Option WarriorParts → List Entrant
entrants_at file None = []
entrants_at file (Some warrior) = entrant file warrior ∷ []

-- the warriors of these files, in their order
abbrev pub entrants_met : List Met → List Entrant
entrants_met found = flat_map (λ (m : Met). entrants_at m.file m.warrior) found

-- the entrants are the warriors of the files of these names, in their order and none left out; and whether each file
-- has one
pub record IsField (s : RawSettings) (files : List (List ℕ)) (whole : Bool) (entrants : List Entrant) : Type 0 where
  pub found : List Met
  pub named : map (λ (m : Met). m.file) found ≡ files
  pub come : All (IsMet s) found
  pub all : whole ≡ all_fought found
  pub are : entrants ≡ entrants_met found

-- how the reading of a field ends, by its entrants and by what standard error holds before and after: each file has a
-- warrior; or it was told which have none; or memory ran out
abbrev pub EndsField : RawSettings → List (List ℕ) → List Entrant → Status → Option (List ℕ) → Option (List ℕ) → Type 0
EndsField s files entrants Status.Done e f = IsField s files true entrants × Keeps e f
EndsField s files entrants Status.Refused e f = IsField s files false entrants × WritesSome e f
EndsField s files entrants Status.NoMemory e f = TellsAfter (fault_word Fault.Memory) e f
EndsField s files entrants status e f = ⊥

-- how the reading of one file ends, by the entrants before and after: its warrior comes after the others; or it has
-- none, and standard error says why; or memory ran out
abbrev pub PutsMember : RawSettings → List ℕ → List Entrant → List Entrant → Status → Option (List ℕ) → Option (List ℕ) → Type 0
PutsMember s file old new Status.Done e f =
    ((warrior : WarriorParts) × IsWarriorOf s warrior × (new ≡ old ++ entrant file warrior ∷ [])) × Keeps e f
PutsMember s file old new Status.Refused e f = (new ≡ old) × WritesSome e f
PutsMember s file old new Status.NoMemory e f = TellsWord (fault_word Fault.Memory) e f
PutsMember s file old new status e f = ⊥
