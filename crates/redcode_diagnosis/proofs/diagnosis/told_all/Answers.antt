-- The faults so far stay told, and one more is.
use Rattle.{redcode_lines.specs.Place.{IsPlaceIn, line_text}, redcode_diagnosis.proofs.Pushed.{mapped-more, all-more}}
use Rattle.redcode_diagnosis.proofs.diagnosis.told_all.Goals as goal

pub loop-fault-preserved : goal.loop-fault-preserved
loop-fault-preserved g c = (
  mapped-more (λ d. d.fault) c.push.new.self.items c.loop-fault.all.items c.in_ok-told.field-0 c.args.faults.now c.loop-fault.fault-index _ c.in_ok-push.ensures.items c.loop-fault.invariant.0 c.loop-fault-test.true c.in_ok-told.ensures.fault,
  all-more (λ d. IsPlaceIn (line_text c.args.source.now d.fault.line) d.column d.width) c.push.new.self.items c.loop-fault.all.items c.in_ok-told.field-0 c.in_ok-push.ensures.items c.loop-fault.invariant.1 c.in_ok-told.ensures.placed,
)
