use Rattle.koth_service.proofs.Visits.{written_on}
use Rattle.koth_service.proofs.moves.write.Goals as goal

pub returns-in-Bytes-clause-moves : goal.returns-in-Bytes-clause-moves
returns-in-Bytes-clause-moves g c = λ store host start slots browsers on.
    written_on g.S.Sockets.happened g.D.Device.facts (g.H.Host.shows host) start slots browsers store c.args.number c.args.sockets.now c.write_browser.new.self c.in-Bytes.count c.args.unsent
    c.as_slice-bytes.result.now c.pass.new.self c.in-Bytes.ensures.1 c.as_slice-bytes.ensures c.pass.ensures on
