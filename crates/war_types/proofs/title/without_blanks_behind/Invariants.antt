-- What is left has the same text without blanks after it, and each iteration leaves less.
use Rattle.{std.proofs.Common.{◌≡◌, length}, war_types.specs.Title.before_blanks}
use Rattle.war_types.proofs.title.without_blanks_behind.Given as goal

abbrev pub invariant-loop-rest : goal.invariant-loop-rest
invariant-loop-rest l = before_blanks l.rest ≡ before_blanks l.text

abbrev pub decreases-loop-rest : goal.decreases-loop-rest
decreases-loop-rest l = length l.rest
