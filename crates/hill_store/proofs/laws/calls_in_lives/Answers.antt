use Rattle.hill_store.proofs.Eventful.{calls}
use Rattle.hill_store.proofs.laws.calls_in_lives.Goals as goal

pub returns : goal.returns
returns g c = calls g.D.Device.facts
