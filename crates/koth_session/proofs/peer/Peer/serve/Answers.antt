-- A command is carried out, or it ends the session.
use Rattle.{std.proofs.Common.{◌≡◌, ap₂, refl, subst, sym}, koth_session.specs.Peer.{AnswersPeer, IsReplied, command_due, command_of}, koth_session.proofs.Standing.settled_so}
use Rattle.koth_session.proofs.peer.Peer.serve.Goals as goal

pub returns-clause-serves : goal.returns-clause-serves
returns-clause-serves g c =
    let asked : command_due c.due.result c.source.result.now ≡ command_of c.args.self.now = ap₂ command_due c.due.ensures c.source.ensures in
    settled_so g.D.Device.facts c.args.steps c.answer-outcome.result c.args.self.now _ c.settle.new.self c.args.store.now c.answer-outcome.new.store c.requires refl refl c.settle.ensures
    (subst (λ k. AnswersPeer g.D.Device.facts c.args.steps k c.answer-outcome.result c.args.self.now.outbox.unsent c.args.store.now c.answer-outcome.new.outbox.unsent c.answer-outcome.new.store)
    asked c.answer-outcome.ensures.answers)

pub returns-clause-replied : goal.returns-clause-replied
returns-clause-replied g c =
    subst (λ l. IsReplied c.answer-outcome.result c.args.self.now.outbox.unsent l c.settle.new.self.reply) (sym c.settle.ensures.unsent)
    (subst (λ r. IsReplied c.answer-outcome.result c.args.self.now.outbox.unsent c.answer-outcome.new.outbox.unsent r) (sym c.settle.ensures.reply) c.answer-outcome.ensures.replied)
