-- The session has read one byte more.
use Rattle.koth_candidates.proofs.Reading.{goes_on, submits}
use Rattle.koth_candidates.proofs.sources.feed.Goals as goal

pub returns-clause-goes_on : goal.returns-clause-goes_on
returns-clause-goes_on g c text at is = goes_on c.args.script.now c.take.new.self text c.args.byte c.take.result at (c.take.ensures at.line at.source at.reading) is

pub returns-clause-submits : goal.returns-clause-submits
returns-clause-submits g c text at is = submits c.args.script.now c.take.new.self text c.args.byte c.take.result at (c.take.ensures at.line at.source at.reading) is
