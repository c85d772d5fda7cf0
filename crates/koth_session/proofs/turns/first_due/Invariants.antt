-- None before this one is sought.
use Rattle.koth_session.specs.Peers.{NoneIsDueWithin}
use Rattle.koth_session.proofs.turns.first_due.Given as goal

abbrev pub invariant-loop-number : goal.invariant-loop-number
invariant-loop-number g l = NoneIsDueWithin l.first l.busy l.slots l.from l.number
