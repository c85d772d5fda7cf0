-- One byte more, until one ends the source.
use Rattle.{std.proofs.KnownBytes.Consumes-trans, koth_candidates.proofs.Reading.{none_so_far, one_more, read_one, whole}}
use Rattle.koth_candidates.proofs.sources.next_source.Goals as goal

pub loop-init : goal.loop-init
loop-init g c = none_so_far c.in-Ok.script (g.I.Read.remaining c.args.input.now) c.in-Ok.ensures

pub loop-preserved : goal.loop-preserved
loop-preserved g c = one_more _ _ _ _ _ _ _ _ c.loop.invariant (read_one _ _ _ _ c.in-Ok-Some.field-0-is c.in-Ok-Some.ensures) c.feed.ensures.goes_on c.in-Nothing.is

pub returns-in-Submit : goal.returns-in-Submit
returns-in-Submit g c = whole _ c.feed.new.script _ _ _ _ _ _ c.loop.invariant (read_one _ _ _ _ c.in-Ok-Some.field-0-is c.in-Ok-Some.ensures) c.feed.ensures.submits c.in-Submit.is

pub returns-in_default-feed : goal.returns-in_default-feed
returns-in_default-feed g c = (_, Consumes-trans _ _ _ c.loop.invariant.bytes _ c.loop.invariant.taken (read_one _ _ _ _ c.in-Ok-Some.field-0-is c.in-Ok-Some.ensures))

pub returns-in-Err : goal.returns-in-Err
returns-in-Err g c = (c.in-Err.ensures.0, (_, Consumes-trans _ _ _ c.loop.invariant.bytes _ c.loop.invariant.taken c.in-Err.ensures.1.1))
