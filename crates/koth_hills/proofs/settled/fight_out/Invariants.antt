-- The submission is one of this warrior to this store, which stays as it is. 16 bits count the rounds of a match.
use Rattle.{std.proofs.Common.{◌≡◌, ◌+◌, ◌*◌, ◌-◌, length}, hill_store.specs.Submission.IsSubmitting}
use Rattle.koth_hills.proofs.settled.fight_out.Given as goal

abbrev pub invariant-steps : goal.invariant-steps
invariant-steps g l = record {
  submitting : IsSubmitting l.store l.submission;
  warrior : l.submission.warrior ≡ l.fn.submission.warrior;
  unchanged : l.store ≡ l.fn.store;
}

abbrev pub decreases-steps : goal.decreases-steps
decreases-steps g l = 65536 * (length l.fn.store.hill.members + 1 - length l.submission.challenge.bouts) - l.submission.challenge.under_way.round
