-- The submission is under way, or its source is answered.
use Rattle.{std.proofs.Common.refl}
use Rattle.koth_session.proofs.judge.begin.Goals as goal

pub returns-in-Ok-clause-unanswered : goal.returns-in-Ok-clause-unanswered
returns-in-Ok-clause-unanswered g c = λ turns. record {
  submits = c.requires.submits;
  own = refl;
  stays = c.in-Ok.ensures.stays;
  store = refl;
  submission = c.in-Ok.submission;
  under_way = refl;
  further = tt;
  of_source = c.in-Ok.ensures.of_source;
}

pub returns-in-Err-clause-served : goal.returns-in-Err-clause-served
returns-in-Err-clause-served g c = record { serves = c.in-Err.ensures.serves; under_way = c.requires.free; beside = λ some. refl }
