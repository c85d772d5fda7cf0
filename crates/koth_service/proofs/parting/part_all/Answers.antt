-- One peer more.
use Rattle.{std.proofs.Common.◌∙◌, koth_service.proofs.{Awaiting.{awaited_on}, Told.grows_on}}
use Rattle.koth_service.proofs.parting.part_all.Goals as goal

pub loop-number-preserved : goal.loop-number-preserved
loop-number-preserved g c = (
  λ start browsers on. c.part.ensures.served start browsers (c.loop-number.invariant.0 start browsers on),
  awaited_on c.loop-number.number c.loop-number.desk c.part.new.desk c.part.ensures.others c.part.ensures.awaited c.loop-number.invariant.1,
  c.part.ensures.others.seats.size ∙ c.loop-number.invariant.2,
  grows_on _ _ _ c.loop-number.invariant.3 c.part.ensures.told,
)
