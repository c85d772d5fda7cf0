use Rattle.{std.proofs.Common.{◌≡◌, IfSome, subst}, koth_hill.specs.Kept.verdict_kept}
use Rattle.hill_store.{specs.{Seen.{Seen, seen}, Submission.{SubmissionParts, submission_of}}, proofs.Submitting.submitting_inside}
use Rattle.hill_store.proofs.store.Store.step.Goals as goal

pub step-requires-clause-fits : goal.step-requires-clause-fits
step-requires-clause-fits g c =
    (submitting_inside (seen c.self.inside.device c.self.inside.hill c.self.inside.header.generation c.self.inside.reopen) c.args.self.now
    (submission_of c.submission.inside.warrior c.submission.inside.challenge) c.args.submission.now c.self.view_is c.submission.view_is c.requires).may.fits

pub step-requires-clause-under_way : goal.step-requires-clause-under_way
step-requires-clause-under_way g c =
    (submitting_inside (seen c.self.inside.device c.self.inside.hill c.self.inside.header.generation c.self.inside.reopen) c.args.self.now
    (submission_of c.submission.inside.warrior c.submission.inside.challenge) c.args.submission.now c.self.view_is c.submission.view_is c.requires).challenge

pub returns-clause-last : goal.returns-clause-last
returns-clause-last g c =
    subst (λ (s : Seen _). IfSome c.step.result (λ judged. judged ≡ verdict_kept s.hill c.args.submission.now.warrior)) c.self.view_is
    (subst (λ (x : SubmissionParts). IfSome c.step.result (λ judged. judged ≡ verdict_kept c.self.inside.hill x.warrior)) c.submission.view_is c.step.ensures.last)
