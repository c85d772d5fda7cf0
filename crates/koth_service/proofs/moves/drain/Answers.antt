use Rattle.koth_service.proofs.Visits.{drained}
use Rattle.koth_service.proofs.moves.drain.Goals as goal

pub returns-in-Bytes-clause-moves : goal.returns-in-Bytes-clause-moves
returns-in-Bytes-clause-moves g c = λ store host start slots browsers on.
    drained g.S.Sockets.happened g.D.Device.facts (g.H.Host.shows host) start slots browsers store c.args.number c.args.sockets.now c.read_browser.new.self c.read_browser.new.bytes c.read_browser.result
    c.read_browser.ensures on
