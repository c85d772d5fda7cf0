use Rattle.koth_service.proofs.Living.{services}
use Rattle.koth_service.proofs.laws.services_in_lives.Goals as goal

pub returns : goal.returns
returns g c = services g.D.Device.facts (g.H.Host.shows c.args._host.now)
