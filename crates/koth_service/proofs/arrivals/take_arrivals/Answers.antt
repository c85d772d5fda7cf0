-- One more that waited, or none.
use Rattle.koth_service.{specs.Standing.peers_of, proofs.{Steps.{arrived, stays}, Told.grows_on}}
use Rattle.koth_service.proofs.arrivals.take_arrivals.Goals as goal

pub returns-in-Nobody-clause-served : goal.returns-in-Nobody-clause-served
returns-in-Nobody-clause-served g c = λ start browsers on. stays g.S.Sockets.happened g.D.Device.facts (g.H.Host.shows c.args.host.now) start browsers _ _ _ _ c.in-Nobody.ensures (c.loop-arrival.invariant.0 start browsers on)

pub returns-in-Failed-clause-served : goal.returns-in-Failed-clause-served
returns-in-Failed-clause-served g c = λ start browsers on. stays g.S.Sockets.happened g.D.Device.facts (g.H.Host.shows c.args.host.now) start browsers _ _ _ _ c.in-Failed.ensures (c.loop-arrival.invariant.0 start browsers on)

pub loop-arrival-preserved : goal.loop-arrival-preserved
loop-arrival-preserved g c = (
  λ start browsers on.
      let now = arrived g.S.Sockets.happened g.D.Device.facts (g.H.Host.shows c.args.host.now) start browsers c.loop-arrival.sockets c.accept.new.self (peers_of c.loop-arrival.desk)
      c.loop-arrival.desk.judge.store c.in-Peer.ensures (c.loop-arrival.invariant.0 start browsers on) in
      c.take_in_one.ensures.served start browsers now.0 now.1,
  grows_on _ _ _ c.loop-arrival.invariant.1 c.take_in_one.ensures.told,
)
