use Rattle.koth_service.{specs.Connections.stage_at, proofs.Visits.{called, uncalled}}
use Rattle.koth_service.proofs.slots.admit.Goals as goal

pub returns-in-Peer-clause-served : goal.returns-in-Peer-clause-served
returns-in-Peer-clause-served g c = λ store start peers slots clock on.
    let now = called g.S.Sockets.happened g.D.Device.facts (g.H.Host.shows c.args.host.now) start peers store (stage_at c.args.browsers.now.connections.items) c.args.sockets.now c.accept_browser.new.self
    c.in-Peer.ensures on in
    c.take_in_one.ensures.served store start peers slots clock now.0 now.1

pub returns-in-Nobody-clause-served : goal.returns-in-Nobody-clause-served
returns-in-Nobody-clause-served g c = λ store start peers slots clock on.
    uncalled g.S.Sockets.happened g.D.Device.facts (g.H.Host.shows c.args.host.now) start peers store (stage_at c.args.browsers.now.connections.items) c.args.sockets.now c.accept_browser.new.self
    c.in-Nobody.ensures on

pub returns-in-Failed-clause-served : goal.returns-in-Failed-clause-served
returns-in-Failed-clause-served g c = λ store start peers slots clock on.
    uncalled g.S.Sockets.happened g.D.Device.facts (g.H.Host.shows c.args.host.now) start peers store (stage_at c.args.browsers.now.connections.items) c.args.sockets.now c.accept_browser.new.self
    c.in-Failed.ensures on
