-- The names so far, or of the tokens that are left, are those of before and of all tokens.
use Rattle.{std.proofs.Common.{◌≡◌, ℕ, List, ◌||◌, length}, redcode_text.specs.Tokens.pieces, redcode_lines.specs.Line.names_among, redcode_warnings.specs.{Named.is_among, Views.has_name}}
use Rattle.redcode_warnings.proofs.named.add_names.Given as goal

abbrev pub invariant-loop-rest : goal.invariant-loop-rest
invariant-loop-rest g l =
    (name : List ℕ) → (has_name l.names name || is_among (names_among (pieces l.rest)) name) ≡ (has_name l.fn.names name || is_among (names_among (pieces l.tokens)) name)

abbrev pub decreases-loop-rest : goal.decreases-loop-rest
decreases-loop-rest g l = length l.rest
