-- It went on as it did, and what is reported stands on standard error.
use Rattle.koth_service.specs.{Told.Grows, Standing.KeepsOn}
use Rattle.koth_service.proofs.sending.send_all.Given as goal

abbrev pub invariant-loop-number : goal.invariant-loop-number
invariant-loop-number g l = (KeepsOn g.S.Sockets.happened g.D.Device.facts (g.H.Host.shows l.fn.host) l.fn.sockets l.fn.desk l.sockets l.desk)
    × Grows (g.E.Write.contents l.initial.errors) (g.E.Write.contents l.errors)
