-- A submission is finished.
use Rattle.{std.proofs.Common.{◌≡◌, refl, subst}, koth_protocol.specs.Commands.{Command, kept_source}, koth_session.specs.Peer.{AnswersPeer, command_of}}
use Rattle.koth_session.proofs.{Answering.submit_due, Standing.settled_so}
use Rattle.koth_session.proofs.peer.Peer.finish.Goals as goal

pub returns : goal.returns
returns g c = λ steps of_source.
    let bytes = kept_source c.args.self.now.inbox.script.source in
    let asked : Command.Submit bytes ≡ command_of c.args.self.now = submit_due c.args.self.now.inbox.due bytes c.requires.submits in
    settled_so g.D.Device.facts steps c.finish-outcome.result c.args.self.now _ c.settle.new.self c.args.store.now c.finish-outcome.new.store c.requires.due refl refl c.settle.ensures
    (subst (λ k. AnswersPeer g.D.Device.facts steps k c.finish-outcome.result c.args.self.now.outbox.unsent c.args.store.now c.finish-outcome.new.outbox.unsent c.finish-outcome.new.store)
    asked (c.finish-outcome.ensures bytes steps of_source))
