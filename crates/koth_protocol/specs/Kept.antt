-- What is kept of a line, and of a source: more than a source may have.
use Rattle.std.specs.Prelude.{ℕ, List, take}

abbrev pub kept : List ℕ → List ℕ
kept bytes = take 65540 bytes
