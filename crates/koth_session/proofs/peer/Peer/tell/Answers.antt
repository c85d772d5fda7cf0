-- A command that is no submission is carried out, or it ends the session.
use Rattle.{std.proofs.Common.{◌≡◌, ap, refl, subst}, koth_protocol.specs.Commands.kept_source, koth_session.specs.Peer.{AnswersPeer, command_due, command_of}, koth_session.proofs.Standing.settled_so}
use Rattle.koth_session.proofs.peer.Peer.tell.Goals as goal

pub returns : goal.returns
returns g c = λ steps.
    let bytes = kept_source c.args.self.now.inbox.script.source in
    let asked : command_due c.due.result bytes ≡ command_of c.args.self.now = ap (λ m. command_due m bytes) c.due.ensures in
    settled_so g.D.Device.facts steps c.tell-outcome.result c.args.self.now _ c.settle.new.self c.args.store.now c.args.store.now c.requires.due refl refl c.settle.ensures
    (subst (λ k. AnswersPeer g.D.Device.facts steps k c.tell-outcome.result c.args.self.now.outbox.unsent c.args.store.now c.tell-outcome.new.outbox.unsent c.args.store.now)
    asked (c.tell-outcome.ensures steps bytes))
