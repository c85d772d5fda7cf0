use Rattle.{std.proofs.Common.{inr, refl, [], ◌∷◌}, hill_file.specs.Done.Done}
use Rattle.hill_file.proofs.careful_device.CarefulDevice.keep_name.Goals as goal

pub returns-in_ok-sync_name-clause-goes : goal.returns-in_ok-sync_name-clause-goes
returns-in_ok-sync_name-clause-goes g c = λ start log on. (
  Done.Named ∷ [],
  inr refl,
  record { history = c.in_ok-sync_name.ensures log on.history; known = on.known; careful = on.careful; sure = on.sure; named = λ _. tt },
)
