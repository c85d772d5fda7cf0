use Rattle.{std.proofs.Common.refl, koth_service.specs.Standing.peers_of, koth_service.proofs.Steps.{seated, turned_away}}
use Rattle.koth_service.proofs.arrivals.admit.Goals as goal

pub returns-in-Ok-clause-served : goal.returns-in-Ok-clause-served
returns-in-Ok-clause-served g c = λ start browsers on.
    seated g.S.Sockets.happened g.D.Device.facts (g.H.Host.shows c.args.host.now) start browsers c.args.sockets.now c.seat.new.self (peers_of c.args.desk.now) _ _ c.in-Ok.number c.args.address
    c.in-Ok.ensures.connects c.sit.ensures.only c.sit.ensures.at refl c.connect.ensures.next refl refl refl refl c.seat.ensures on

pub returns-in-Err-Full-clause-served : goal.returns-in-Err-Full-clause-served
returns-in-Err-Full-clause-served g c = λ start browsers on.
    turned_away g.S.Sockets.happened g.D.Device.facts (g.H.Host.shows c.args.host.now) start browsers c.args.sockets.now c.refuse.new.self (peers_of c.args.desk.now)
    c.connect.new.self.slots.items c.connect.new.self.next _ c.in-Err-Full.field-0 c.in-Err-Full.ensures.connects c.connect.ensures.next c.refuse.ensures on
