-- The zeros that a file holds, as far as that is known.
use Rattle.std.specs.{Prelude.{◌≡◌, ℕ, List, Option, All}, Io.KnownBytes.Consumes}

-- each of these bytes is zero
abbrev pub AreZeros : List ℕ → Type 0
AreZeros bytes = All (λ byte. byte ≡ 0) bytes

-- zeros were read from the front of what is known
abbrev pub TakesZeros : Option (List ℕ) → Option (List ℕ) → Type 0
TakesZeros old new = (zeros : List ℕ) × AreZeros zeros × Consumes old new zeros
