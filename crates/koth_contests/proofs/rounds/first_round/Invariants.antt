-- None of the first rounds ended so.
use Rattle.{std.proofs.Common.{◌≡◌, ℕ, ◌<◌, ◌≢◌}, koth_match.specs.Match.round_outcome}
use Rattle.koth_contests.proofs.rounds.first_round.Given as goal

abbrev pub invariant-loop-round : goal.invariant-loop-round
invariant-loop-round g l = record {
  others : (r : ℕ) → r < l.round → round_outcome l.settings l.older l.younger r ≢ l.wanted;
  settings : l.arena.settings ≡ l.settings;
}
