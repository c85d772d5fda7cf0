-- The sessions and the connections went on, by some history, with as many slots.
use Rattle.{std.proofs.Common.{◌≡◌, [], length}, koth_service.specs.{Told.Grows, Connections.stage_at, Services.start_at, Standing.{GoesOn, peers_of}}}
use Rattle.koth_service.proofs.service.serve_rounds.Given as goal

abbrev pub invariant-loop-round : goal.invariant-loop-round
invariant-loop-round g l = (g.S.Sockets.happened l.fn.sockets [] → GoesOn g.S.Sockets.happened g.D.Device.facts (g.H.Host.shows l.fn.host) (start_at l.fn.desk) l.sockets (peers_of l.desk) (stage_at l.browsers.connections.items) l.desk.judge.store)
    × (length l.browsers.connections.items ≡ l.fn.desk.limits.browsers)
    × Grows (g.E.Write.contents l.initial.errors) (g.E.Write.contents l.errors)
