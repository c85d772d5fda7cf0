-- The first bad token of those that are left is that of all.
use Rattle.{std.proofs.Common.{◌≡◌, length}, redcode_text.specs.Tokens.pieces, redcode_expand.specs.Cut.first_bad}
use Rattle.redcode_expand.proofs.entry.first_bad.Given as goal

abbrev pub invariant-loop-rest : goal.invariant-loop-rest
invariant-loop-rest l = first_bad (pieces l.rest) ≡ first_bad (pieces l.tokens)

abbrev pub decreases-loop-rest : goal.decreases-loop-rest
decreases-loop-rest l = length l.rest
