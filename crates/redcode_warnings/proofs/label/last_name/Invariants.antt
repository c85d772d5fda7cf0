-- The last name of the tokens that are left, else the one so far, is that of all tokens.
use Rattle.{std.proofs.Common.{◌≡◌, None, length, option_map}, redcode_text.specs.Tokens.{piece_of, pieces}, redcode_warnings.specs.Label.last_name}
use Rattle.redcode_warnings.proofs.label.last_name.Given as goal

abbrev pub invariant-loop-rest : goal.invariant-loop-rest
invariant-loop-rest l = last_name (option_map (λ t. piece_of t) l.found) (pieces l.rest) ≡ last_name None (pieces l.tokens)

abbrev pub decreases-loop-rest : goal.decreases-loop-rest
decreases-loop-rest l = length l.rest
