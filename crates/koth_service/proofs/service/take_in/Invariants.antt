-- It went on as it did, and what is reported stands on standard error.
use Rattle.koth_service.specs.{Told.Grows, Standing.KeepsOn}
use Rattle.koth_service.proofs.service.take_in.Given as goal

abbrev pub invariant-loop-turn : goal.invariant-loop-turn
invariant-loop-turn g l = (KeepsOn g.S.Sockets.happened g.D.Device.facts (g.H.Host.shows l.fn.host) l.fn.sockets l.fn.desk l.sockets l.desk)
    × Grows (g.E.Write.contents l.fn.errors) (g.E.Write.contents l.errors)
