-- The rounds so far are those against the entries so far.
use Rattle.{std.proofs.Common.{◌≡◌, ◌≤◌, ◌*◌, take}, std.specs.List.sum_by, koth_hill.specs.Kept.entries_of, koth_views.specs.Tally.between}
use Rattle.koth_views.proofs.tally.against_all.Given as goal

abbrev pub invariant-loop-place : goal.invariant-loop-place
invariant-loop-place g l = record {
  won : l.won ≡ sum_by (λ other. (between l.hill l.one other).won) (take l.place (entries_of l.hill.members));
  lost : l.lost ≡ sum_by (λ other. (between l.hill l.one other).lost) (take l.place (entries_of l.hill.members));
  tied : l.tied ≡ sum_by (λ other. (between l.hill l.one other).tied) (take l.place (entries_of l.hill.members));
  small_won : l.won ≤ 65535 * l.place;
  small_lost : l.lost ≤ 65535 * l.place;
  small_tied : l.tied ≤ 65535 * l.place;
}
