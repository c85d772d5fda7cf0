-- What was joined, and what the last token and those that are left become.
use Rattle.{std.proofs.Common.{◌≡◌, ◌++◌, length}, redcode_text.specs.Tokens.{piece_of, pieces}, redcode_copies.specs.Counter.{joined, joined_from}}
use Rattle.redcode_copies.proofs.copying.joined_tokens.Given as goal

abbrev pub invariant-loop-rest : goal.invariant-loop-rest
invariant-loop-rest g l = l.all.items ++ joined_from l.counter l.is_joined (piece_of l.token) (pieces l.rest) ≡ joined l.counter (pieces l.tokens)

abbrev pub decreases-loop-rest : goal.decreases-loop-rest
decreases-loop-rest g l = length l.rest
