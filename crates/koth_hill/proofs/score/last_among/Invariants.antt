-- The scores that are left answer what all do.
use Rattle.{std.proofs.Common.{◌≡◌, drop}, koth_hill.specs.Scores.last_among}
use Rattle.koth_hill.proofs.score.last_among.Given as goal

abbrev pub invariant-loop-score : goal.invariant-loop-score
invariant-loop-score l = last_among l.scores (drop l.score-index l.scores) ≡ last_among l.scores l.scores
