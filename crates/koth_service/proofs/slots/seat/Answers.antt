use Rattle.koth_service.proofs.{Visits.taken_in}
use Rattle.koth_service.proofs.slots.seat.Goals as goal

pub returns-clause-served : goal.returns-clause-served
returns-clause-served g c = λ store start peers slots clock on.
    taken_in g.S.Sockets.happened g.D.Device.facts (g.H.Host.shows c.args.host.now) start peers store c.args.now c.args.sockets.now c.seat_browser.new.self c.settle.new.sockets c.args.number
    c.args.browsers.now.connections.items c.settle.new.browsers.connections.items c.begun-connection.result slots clock c.requires c.seat_browser.ensures
    c.begun-connection.ensures c.settle.ensures.closes c.settle.ensures.comes on
