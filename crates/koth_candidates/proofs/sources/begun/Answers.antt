-- The line was read.
use Rattle.koth_candidates.proofs.Reading.{none_read}
use Rattle.koth_candidates.proofs.sources.begun.Goals as goal

pub returns-then-feed_all : goal.returns-then-feed_all
returns-then-feed_all g c = c.feed_all.ensures c.if-feed_all.true (none_read _ c.in_ok-script.ensures)
