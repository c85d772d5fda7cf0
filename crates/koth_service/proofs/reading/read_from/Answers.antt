use Rattle.{std.proofs.Common.{take}, koth_service.specs.Standing.peers_of, koth_service.proofs.{Steps.{came, closed, lost, there_by_room}, Told.stays}}
use Rattle.koth_service.proofs.reading.read_from.Goals as goal

pub returns-in-Bytes-clause-served : goal.returns-in-Bytes-clause-served
returns-in-Bytes-clause-served g c = λ start browsers on.
    came g.S.Sockets.happened g.D.Device.facts (g.H.Host.shows c.args.host.now) start browsers c.args.sockets.now c.read.new.self (peers_of c.args.desk.now) c.take.new.self.slots.items
    c.hear.new.self.seats.items c.take.new.self.next _ c.args.number (take c.in-Bytes.count c.read.new.bytes)
    (there_by_room c.args.desk.now.peers.slots.items c.args.number c.room-room.result c.room-room.ensures.room c.if-room-eq0.false) c.take.ensures.takes c.hear.ensures
    c.take.ensures.next c.in-Bytes.ensures.1 on

pub returns-in-End-clause-served : goal.returns-in-End-clause-served
returns-in-End-clause-served g c = λ start browsers on.
    closed g.S.Sockets.happened g.D.Device.facts (g.H.Host.shows c.args.host.now) start browsers c.args.sockets.now c.read.new.self (peers_of c.args.desk.now) c.close.new.self.slots.items
    c.close.new.self.next _ c.args.number c.close.ensures.closes c.close.ensures.next c.in-End.ensures on

pub returns-in-Gone-clause-served : goal.returns-in-Gone-clause-served
returns-in-Gone-clause-served g c = λ start browsers on.
    let gone = lost g.S.Sockets.happened g.D.Device.facts (g.H.Host.shows c.args.host.now) start browsers c.args.sockets.now c.read.new.self (peers_of c.args.desk.now) c.args.desk.now.judge.store
    c.args.number (there_by_room c.args.desk.now.peers.slots.items c.args.number c.room-room.result c.room-room.ensures.room c.if-room-eq0.false) c.in-Gone.ensures on in
    c.let_go.ensures.served start browsers gone.0 gone.1

pub returns-then-room-eq0-clause-told : goal.returns-then-room-eq0-clause-told
returns-then-room-eq0-clause-told g c = c.look_at.ensures.told

pub returns-in-Bytes-clause-told : goal.returns-in-Bytes-clause-told
returns-in-Bytes-clause-told g c = stays _

pub returns-in-End-clause-told : goal.returns-in-End-clause-told
returns-in-End-clause-told g c = stays _

pub returns-in-Nothing-clause-told : goal.returns-in-Nothing-clause-told
returns-in-Nothing-clause-told g c = stays _
