-- What the search for the nearest name keeps: no part of the definition.
use Rattle.std.specs.{Prelude.{ℕ, nat_lt, if◌then◌else◌, List, [], ◌∷◌, ◌++◌, Option, Some, None}, Borrow.Bor}
use Rattle.{redcode_lines.specs.Line.SourceLine, redcode_expand.specs.Expansion.Expansion, redcode_scene.specs.Nearest.{names_on, near}}

-- a name with its edits, without its place in memory
abbrev pub seen : ℕ × Bor (List ℕ) → ℕ × List ℕ
seen found = (found.0, found.1.now)

-- of two the one to which fewer edits lead, and the first of two that are as near
abbrev pub nearer : Option (ℕ × List ℕ) → Option ℕ → List ℕ → Option (ℕ × List ℕ)
nearer best None name = best
nearer None (Some edits) name = Some (edits, name)
nearer (Some best) (Some edits) name = if nat_lt edits best.0 then Some (edits, name) else Some best

-- the nearest of the names so far and of further ones
abbrev pub nearest_from : List ℕ → Option (ℕ × List ℕ) → List (List ℕ) → Option (ℕ × List ℕ)
nearest_from word best [] = best
nearest_from word best (name ∷ names) = nearest_from word (nearer best (near word name) name) names

abbrev pub name_in : Option (ℕ × List ℕ) → Option (List ℕ)
name_in None = None
name_in (Some best) = Some best.1

-- these names, and those of further lines
abbrev pub with_names : Option Expansion → List (List ℕ) → List SourceLine → List (List ℕ)
with_names expanded names [] = names
with_names expanded names (line ∷ lines) = with_names expanded (names ++ names_on expanded line) lines
