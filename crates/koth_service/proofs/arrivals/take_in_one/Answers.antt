-- A place is free, or the peer that is disconnected may be.
use Rattle.{koth_service.specs.{Places.MayGive, Standing.peers_of, declared.arrivals.Place.Place}, koth_service.proofs.{Longest.displaced, Steps.refused, Told.grows_on}}
use Rattle.koth_service.proofs.arrivals.take_in_one.Goals as goal

pub returns-then-is_some_and-clause-served : goal.returns-then-is_some_and-clause-served
returns-then-is_some_and-clause-served g c = λ start browsers on waits.
    refused g.S.Sockets.happened g.D.Device.facts (g.H.Host.shows c.args.host.now) start browsers c.args.sockets.now c.refuse.new.self (peers_of c.args.desk.now) c.args.desk.now.judge.store c.refuse.ensures on

pub returns-in-Of-clause-served : goal.returns-in-Of-clause-served
returns-in-Of-clause-served g c = λ start browsers on waits.
    let may : MayGive (Place.Of c.in-Of.number) c.args.desk.now = rw c.in-Of.is at c.requires in
    c.admit.ensures.served start browsers (c.let_go.ensures.served start browsers on
    (displaced g.S.Sockets.happened g.D.Device.facts (g.H.Host.shows c.args.host.now) start browsers c.args.sockets.now c.args.desk.now c.args.desk.now.judge.store c.in-Of.number
    may.0 may.1 on waits))

pub returns-in-Of-clause-told : goal.returns-in-Of-clause-told
returns-in-Of-clause-told g c = grows_on _ _ _ c.let_go.ensures.told c.admit.ensures.told
