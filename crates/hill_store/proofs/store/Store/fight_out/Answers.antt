use Rattle.{std.proofs.Common.{◌≡◌, subst}, koth_hill.specs.Kept.verdict_kept}
use Rattle.hill_store.{specs.{Seen.{Seen, seen}, Submission.{SubmissionParts, submission_of}}, proofs.Submitting.submitting_inside}
use Rattle.hill_store.proofs.store.Store.fight_out.Goals as goal

pub fight_out-requires-clause-fits : goal.fight_out-requires-clause-fits
fight_out-requires-clause-fits g c =
    (submitting_inside (seen c.self.inside.device c.self.inside.hill c.self.inside.header.generation c.self.inside.reopen) c.args.self.now
    (submission_of c.submission.inside.warrior c.submission.inside.challenge) c.args.submission.now c.self.view_is c.submission.view_is c.requires).may.fits

pub fight_out-requires-clause-under_way : goal.fight_out-requires-clause-under_way
fight_out-requires-clause-under_way g c =
    (submitting_inside (seen c.self.inside.device c.self.inside.hill c.self.inside.header.generation c.self.inside.reopen) c.args.self.now
    (submission_of c.submission.inside.warrior c.submission.inside.challenge) c.args.submission.now c.self.view_is c.submission.view_is c.requires).challenge

pub returns-clause-verdict : goal.returns-clause-verdict
returns-clause-verdict g c =
    subst (λ (s : Seen _). c.fight_out.result ≡ verdict_kept s.hill c.args.submission.now.warrior) c.self.view_is
    (subst (λ (x : SubmissionParts). c.fight_out.result ≡ verdict_kept c.self.inside.hill x.warrior) c.submission.view_is c.fight_out.ensures.verdict)
