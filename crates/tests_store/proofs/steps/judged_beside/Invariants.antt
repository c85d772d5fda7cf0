-- The submission is one of the same warrior, and the store stays as it was.
use Rattle.std.specs.Prelude.{◌≡◌}
use Rattle.hill_store.specs.Submission.{IsSubmitting}
use Rattle.tests_store.proofs.steps.judged_beside.Given as goal

abbrev pub invariant-loop-step : goal.invariant-loop-step
invariant-loop-step g l = record {
  submitting : IsSubmitting l.fn.store l.submission;
  warrior : l.submission.warrior ≡ l.fn.submission.warrior;
  store : l.store ≡ l.fn.store;
}
