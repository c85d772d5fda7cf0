-- One peer more.
use Rattle.koth_service.proofs.Told.{grows_on}
use Rattle.koth_service.proofs.reading.read_all.Goals as goal

pub loop-number-preserved : goal.loop-number-preserved
loop-number-preserved g c =
    (λ start browsers on. c.read_from.ensures.served start browsers (c.loop-number.invariant.0 start browsers on), grows_on _ _ _ c.loop-number.invariant.1 c.read_from.ensures.told)
