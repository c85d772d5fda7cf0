use Rattle.hill_store.proofs.Moving.{migrations}
use Rattle.hill_store.proofs.laws.migrations_in_lives.Goals as goal

pub returns : goal.returns
returns g c = migrations g.O.Device.facts g.D.Device.facts
