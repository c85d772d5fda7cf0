-- Its session has ended, and all its answers went out.
use Rattle.koth_service.{specs.Standing.peers_of, proofs.Steps.shut}
use Rattle.koth_service.proofs.parting.shut.Goals as goal

pub returns-clause-served : goal.returns-clause-served
returns-clause-served g c = λ host start browsers on.
    shut g.S.Sockets.happened g.D.Device.facts (g.H.Host.shows host) start browsers c.args.sockets.now c.shut.new.self (peers_of c.args.desk.now) c.drain.new.self.seats.items c.args.desk.now.judge.store
    c.args.number _ c.requires.ended c.requires.finished c.drain.ensures c.shut.ensures on
