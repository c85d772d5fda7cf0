use Rattle.{std.proofs.Common.{ℕ, List, ◌∷◌, subst, take}, koth_service.specs.{Noted.Noted, Standing.peers_of}, koth_service.proofs.{Steps.{lost, some_unsent, there_by_unsent, went}, Told.stays}}
use Rattle.koth_service.proofs.sending.send_to.Goals as goal

pub returns-in-Bytes-clause-served : goal.returns-in-Bytes-clause-served
returns-in-Bytes-clause-served g c = λ start browsers on.
    let count = c.in-Bytes.count in
    let is = c.unsent-unsent.ensures.value in
    went g.S.Sockets.happened g.D.Device.facts (g.H.Host.shows c.args.host.now) start browsers c.args.sockets.now c.write.new.self (peers_of c.args.desk.now) c.sent.new.self.slots.items
    c.tell.new.self.seats.items c.sent.new.self.next _ c.args.number count c.sent.ensures.sends c.tell.ensures (some_unsent _ _ _ is c.is_empty.ensures c.if-is_empty.false) c.sent.ensures.next
    (subst (λ (l : List ℕ). (log : List Noted) → g.S.Sockets.happened c.args.sockets.now log → g.S.Sockets.happened c.write.new.self (Noted.Told c.args.number (take count l) ∷ log)) is
    c.in-Bytes.ensures.1) on

pub returns-in-Gone-clause-served : goal.returns-in-Gone-clause-served
returns-in-Gone-clause-served g c = λ start browsers on.
    let gone = lost g.S.Sockets.happened g.D.Device.facts (g.H.Host.shows c.args.host.now) start browsers c.args.sockets.now c.write.new.self (peers_of c.args.desk.now) c.args.desk.now.judge.store
    c.args.number (there_by_unsent c.args.desk.now.peers.slots.items c.args.number (some_unsent _ _ _ c.unsent-unsent.ensures.value c.is_empty.ensures c.if-is_empty.false)) c.in-Gone.ensures on in
    c.let_go.ensures.served start browsers gone.0 gone.1

pub returns-then-is_empty-clause-told : goal.returns-then-is_empty-clause-told
returns-then-is_empty-clause-told g c = stays _

pub returns-in-Bytes-clause-told : goal.returns-in-Bytes-clause-told
returns-in-Bytes-clause-told g c = stays _

pub returns-in-Nothing-clause-told : goal.returns-in-Nothing-clause-told
returns-in-Nothing-clause-told g c = stays _
