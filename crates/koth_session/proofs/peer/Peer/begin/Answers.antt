-- A submission is begun, or its source is answered, or it ends the session.
use Rattle.{std.proofs.Common.{◌≡◌, ◌∙◌, Some, ap, refl, subst}, koth_protocol.specs.Commands.{Command, kept_source}, koth_session.specs.Peer.{AnswersPeer, command_of}}
use Rattle.koth_session.{specs.Judge.IsOfSource, proofs.{Answering.submit_due, Standing.settled_so}}
use Rattle.koth_session.proofs.peer.Peer.begin.Goals as goal

pub returns-in-Ok-clause-of_source : goal.returns-in-Ok-clause-of_source
returns-in-Ok-clause-of_source g c =
    subst (λ l. IsOfSource c.args.store.now.hill.settings l c.in-Ok.submission) c.source.ensures c.in-Ok.ensures.of_source

pub returns-in-Err-clause-serves : goal.returns-in-Err-clause-serves
returns-in-Err-clause-serves g c =
    let bytes = kept_source c.args.self.now.inbox.script.source in
    let asked : Command.Submit c.source.result.now ≡ command_of c.args.self.now =
    ap Command.Submit c.source.ensures ∙ submit_due c.args.self.now.inbox.due bytes c.requires.submits in
    settled_so g.D.Device.facts (Some c.args.steps) c.in-Err.outcome c.args.self.now _ c.settle.new.self c.args.store.now c.args.store.now c.requires.due refl refl c.settle.ensures
    (subst (λ k. AnswersPeer g.D.Device.facts (Some c.args.steps) k c.in-Err.outcome c.args.self.now.outbox.unsent c.args.store.now c.begin.new.outbox.unsent c.args.store.now)
    asked c.in-Err.ensures.answers)
