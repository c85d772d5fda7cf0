-- As much time has gone by, or nobody may be served.
use Rattle.std.proofs.Common.{inr, refl}
use Rattle.koth_service.proofs.desk.Desk.may_show.Goals as goal

pub returns : goal.returns
returns g c = λ is. (refl, inr (c.is_idle.ensures.idle is))
