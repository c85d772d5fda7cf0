use Rattle.koth_session.proofs.Living.{sessions}
use Rattle.koth_session.proofs.laws.sessions_in_lives.Goals as goal

pub returns : goal.returns
returns g c = sessions g.D.Device.facts
