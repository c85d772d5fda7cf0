-- A submission, or another command.
use Rattle.{std.proofs.Common.{◌∙◌, subst, sym}, koth_session.specs.Peer.AnswersPeer, koth_session.proofs.Answering.submit_due}
use Rattle.koth_session.proofs.answers.answer.Goals as goal

pub returns-then-is_submission-clause-answers : goal.returns-then-is_submission-clause-answers
returns-then-is_submission-clause-answers g c =
    subst (λ k. AnswersPeer g.D.Device.facts c.args.steps k c.submit.result c.args.outbox.now.unsent c.args.store.now c.submit.new.outbox.unsent c.submit.new.store)
    (submit_due c.args.due c.args.source.now (sym c.is_submission.ensures ∙ c.if-is_submission.true)) c.submit.ensures.answers
