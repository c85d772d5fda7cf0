-- All are held after none.
use Rattle.std.proofs.Common.{[]}
use Rattle.koth_keeping.proofs.reseeding.resubmitted.Goals as goal

pub returns-in-Ok : goal.returns-in-Ok
returns-in-Ok g c = λ s holding. c.in-Ok.ensures s [] holding
