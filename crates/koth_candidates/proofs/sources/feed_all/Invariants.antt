-- The first bytes were passed on.
use Rattle.{std.proofs.Common.{[], take}, koth_candidates.specs.Sources.IsAt}
use Rattle.koth_candidates.proofs.sources.feed_all.Given as goal

abbrev pub invariant-loop-place : goal.invariant-loop-place
invariant-loop-place g l = IsAt l.fn.script [] → IsAt l.script (take l.place l.text)
