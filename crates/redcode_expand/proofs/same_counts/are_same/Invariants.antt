-- If what is left is the same, so are the lists.
use Rattle.{std.proofs.Common.{◌≡◌, length}, redcode_text.specs.Tokens.pieces}
use Rattle.redcode_expand.proofs.same_counts.are_same.Given as goal

abbrev pub invariant-loop-rest : goal.invariant-loop-rest
invariant-loop-rest l = pieces l.rest ≡ pieces l.behind → pieces l.fn.tokens ≡ pieces l.fn.others

abbrev pub decreases-loop-rest : goal.decreases-loop-rest
decreases-loop-rest l = length l.rest
