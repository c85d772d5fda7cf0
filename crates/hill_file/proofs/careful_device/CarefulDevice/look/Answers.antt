use Rattle.{std.proofs.Common.{inr, refl, [], ◌∷◌}, hill_file.specs.Done.Done}
use Rattle.hill_file.proofs.careful_device.CarefulDevice.look.Goals as goal

pub returns-else-self-sectors-clause-goes : goal.returns-else-self-sectors-clause-goes
returns-else-self-sectors-clause-goes g c = λ start log on. (
  Done.Looked c.in_ok-found.found ∷ [],
  inr (c.in_ok-found.found, refl),
  record { history = c.in_ok-found.ensures log (c.in_ok-sectors.ensures log on.history); known = on.known; careful = on.careful; sure = on.sure; named = on.named },
)
