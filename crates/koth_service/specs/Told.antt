-- What a host writes of what happens.
use Rattle.std.specs.{Prelude.{ℕ, List, Option}, Io.KnownBytes.Appends}

-- some text was written after what was there, or none
abbrev pub Grows : Option (List ℕ) → Option (List ℕ) → Type 0
Grows old new = (text : List ℕ) × Appends old new text
