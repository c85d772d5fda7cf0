-- The names so far, or of the lines that are left, are those of all lines.
use Rattle.{std.proofs.Common.{◌≡◌, ℕ, List, ◌||◌, length, map}, redcode_lines.specs.Views.line_read, redcode_warnings.specs.{Named.{is_among, names_of}, Views.has_name}}
use Rattle.redcode_warnings.proofs.named.names_of.Given as goal

abbrev pub invariant-loop-rest : goal.invariant-loop-rest
invariant-loop-rest g l = (name : List ℕ) → (has_name l.names name || is_among (names_of (map line_read l.rest)) name) ≡ is_among (names_of (map line_read l.lines)) name

abbrev pub decreases-loop-rest : goal.decreases-loop-rest
decreases-loop-rest g l = length l.rest
