-- What is written of a text, if a clause can name the output's bytes.
use Rattle.std.specs.{Prelude.{◌≡◌, ℕ, Option, List, ◌++◌}, Io.KnownBytes.Appends}

-- a part of a text was written, from its beginning on
pub record WritesPart (old new : Option (List ℕ)) (text : List ℕ) : Type 0 where
  pub part : List ℕ
  pub rest : List ℕ
  pub split : text ≡ part ++ rest
  pub written : Appends old new part
