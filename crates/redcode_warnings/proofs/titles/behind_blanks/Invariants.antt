-- What is left has the same text after its blanks.
use Rattle.{std.proofs.Common.{◌≡◌, length}, war_types.specs.Title.after_blanks}
use Rattle.redcode_warnings.proofs.titles.behind_blanks.Given as goal

abbrev pub invariant-loop-rest : goal.invariant-loop-rest
invariant-loop-rest l = after_blanks l.rest ≡ after_blanks l.text

abbrev pub decreases-loop-rest : goal.decreases-loop-rest
decreases-loop-rest l = length l.rest
