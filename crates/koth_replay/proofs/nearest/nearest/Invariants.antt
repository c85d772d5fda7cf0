-- The place is that of the least address before this one.
use Rattle.koth_replay.specs.Code.{IsNearest}
use Rattle.koth_replay.proofs.nearest.nearest.Given as goal

abbrev pub invariant-loop-place : goal.invariant-loop-place
invariant-loop-place l = IsNearest l.place l.addresses l.from l.best
