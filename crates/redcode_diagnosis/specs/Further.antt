-- What else is refused of a source.
use Rattle.std.specs.Prelude.{◌≡◌, ℕ, List, ◌++◌, All, map}
use Rattle.{redcode_lines.specs.Place.{IsPlaceIn, line_text}, redcode_diagnosis.specs.{Told.AreOnePerLine, declared.diagnosis.Diagnosis.Diagnosis}}

-- each is at a place in its line
abbrev pub ArePlaced : {A : Type 0} → List ℕ → List (Diagnosis A) → Type 0
ArePlaced {A} source all = All (λ (d : Diagnosis A). IsPlaceIn (line_text source d.fault.line) d.column d.width) all

-- others stand after these, each at a place in its line, and there is one for each line if there was
pub record PutsFurther {A : Type 0} (source : List ℕ) (old new : List (Diagnosis A)) : Type 0 where
  pub others : List (Diagnosis A)
  pub grown : new ≡ old ++ others
  pub placed : ArePlaced source others
  pub once : AreOnePerLine (map (λ (d : Diagnosis A). d.fault) old) → AreOnePerLine (map (λ (d : Diagnosis A). d.fault) new)
