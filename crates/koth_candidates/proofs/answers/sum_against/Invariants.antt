-- The rounds against the first opponents.
use Rattle.{std.proofs.Common.{◌≡◌, ◌*◌, ◌≤◌, take}, koth_field.specs.Field.entrants_of, koth_contests.specs.Contest.{most_rounds, rounds_in}, koth_candidates.specs.Answers.sum_against}
use Rattle.koth_candidates.proofs.answers.sum_against.Given as goal

abbrev pub invariant-loop-place : goal.invariant-loop-place
invariant-loop-place g l = record {
  sum : l.sum ≡ sum_against l.settings l.warrior (entrants_of (take l.place l.opponents));
  rounds : rounds_in l.sum ≤ most_rounds * l.place;
  settings : l.arena.settings ≡ l.settings;
}
