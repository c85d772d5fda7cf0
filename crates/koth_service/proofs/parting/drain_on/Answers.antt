-- More was thrown away, or the peer is disconnected as its session ended.
use Rattle.koth_seats.specs.Seats.{seat_at}
use Rattle.{koth_session.specs.Peers.peer_at, koth_service.specs.{Moment.moment, Standing.peers_of, declared.host.HowEnded.HowEnded}}
use Rattle.koth_service.proofs.{Causes.by_end, Steps.{drained, still_may}}
use Rattle.koth_service.proofs.Told
use Rattle.koth_service.proofs.parting.drain_on.Goals as goal

pub returns-in-Some-clause-served : goal.returns-in-Some-clause-served
returns-in-Some-clause-served g c = λ start browsers on.
    drained g.S.Sockets.happened g.D.Device.facts (g.H.Host.shows c.args.host.now) start browsers c.args.sockets.now c.drained.new.sockets (peers_of c.args.desk.now) c.drain.new.self.seats.items
    c.args.desk.now.judge.store c.args.number c.in-Some.after c.requires.shut c.drain.ensures c.drained.ensures on

pub returns-in-Some-clause-told : goal.returns-in-Some-clause-told
returns-in-Some-clause-told g c = Told.stays _

pub returns-in-None-clause-served : goal.returns-in-None-clause-served
returns-in-None-clause-served g c = λ start browsers on.
    let peers = peers_of c.args.desk.now in
    let after = still_may g.S.Sockets.happened g.D.Device.facts (g.H.Host.shows c.args.host.now) start browsers c.args.sockets.now c.drained.new.sockets peers c.args.desk.now.judge.store c.args.number
    (HowEnded.By c.args.end) c.drained.ensures on
    (by_end start.most c.args.number c.args.end (moment start on.0) (peer_at peers.slots c.args.number) (seat_at peers.seats c.args.number) (on.1.standing c.args.number) c.requires.ended c.requires.finished) in
    c.let_go.ensures.served start browsers after.0 after.1
