-- It isn't known to be gone, or it is disconnected.
use Rattle.koth_seats.specs.Seats.{seat_at}
use Rattle.{std.proofs.Common.{◌∙◌, ap, is_some, sym}, koth_session.specs.Peers.peer_at, koth_service.specs.{Noted.{Adds, Noted}, Moment.moment, Standing.peers_of}}
use Rattle.koth_service.proofs.{Looking.{here, there_by_seat}, Steps.lost}
use Rattle.koth_service.proofs.reading.look_at.Goals as goal

pub returns-then-is_gone-clause-served : goal.returns-then-is_gone-clause-served
returns-then-is_gone-clause-served g c = λ start browsers on.
    let n = c.args.number in
    let slots = c.args.desk.now.peers.slots.items in
    let seats = c.args.desk.now.seats.seats.items in
    let m = moment start on.0 in
    let adds : Adds g.S.Sockets.happened (Noted.Lost n) c.args.sockets.now c.is_gone.new.self = rw c.if-is_gone.true at c.is_gone.ensures in
    let gone = lost g.S.Sockets.happened g.D.Device.facts (g.H.Host.shows c.args.host.now) start browsers c.args.sockets.now c.is_gone.new.self (peers_of c.args.desk.now) c.args.desk.now.judge.store
    n (there_by_seat (m.sessions n) (peer_at slots n) (seat_at seats n) (ap is_some (sym c.at.ensures ∙ c.in-Some.is)) (on.1.standing n)) adds on in
    c.let_go.ensures.served start browsers gone.0 gone.1

pub returns-else-is_gone-clause-served : goal.returns-else-is_gone-clause-served
returns-else-is_gone-clause-served g c = λ start browsers on.
    let adds : Adds g.S.Sockets.happened (Noted.Here c.args.number) c.args.sockets.now c.is_gone.new.self = rw c.if-is_gone.false at c.is_gone.ensures in
    here g.S.Sockets.happened g.D.Device.facts (g.H.Host.shows c.args.host.now) start browsers c.args.sockets.now c.is_gone.new.self (peers_of c.args.desk.now) c.args.desk.now.judge.store
    c.args.number adds on
