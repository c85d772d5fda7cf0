-- Of each pass: both sides have a process, and the turns that are left make of the round what all make of the first one.
use Rattle.{std.proofs.Common.{◌≡◌, ℕ, ◌+◌, ◌-◌, ◌*◌, ◌≤◌, false}, war_types.specs.declared.settings.RawSettings.RawSettings}
use Rattle.mars_core.specs.{Cells.IsCore, Round.{after_turns, is_empty, reach_of, turned, IsQueue}, Arena.round_in}
use Rattle.mars_core.proofs.turn.turns.Given as goal

abbrev pub invariant-loop-left : goal.invariant-loop-left
invariant-loop-left g l = record {
  core : IsCore l.size l.core;
  first : IsQueue l.size l.first.limit l.first.addresses;
  second : IsQueue l.size l.second.limit l.second.addresses;
  first_limit : l.first.limit ≡ l.fn.first.limit;
  second_limit : l.second.limit ≡ l.fn.second.limit;
  first_lives : is_empty l.first.addresses ≡ false;
  second_lives : is_empty l.second.addresses ≡ false;
  left : l.left ≤ l.most;
  start : l.left ≡ l.most → (l.core ≡ l.fn.core) × (l.first ≡ l.fn.first) × (l.second ≡ l.fn.second) × (l.to_move ≡ l.fn.to_move);
  after : (s : RawSettings) (used : ℕ) → reach_of s ≡ g.L.Limits.reach l.fn.limits → s.processes ≡ l.fn.first.limit → s.processes ≡ l.fn.second.limit → used + l.most ≤ 2 * s.cycles →
      after_turns l.left (round_in s l.core l.first.addresses l.second.addresses l.to_move (used + (l.most - l.left)))
      ≡ after_turns l.most (round_in s l.fn.core l.fn.first.addresses l.fn.second.addresses l.fn.to_move used);
  last : (s : RawSettings) (used : ℕ) → reach_of s ≡ g.L.Limits.reach l.fn.limits → s.processes ≡ l.fn.first.limit → s.processes ≡ l.fn.second.limit → used + l.most ≤ 2 * s.cycles → l.most ≡ 1 → l.left ≡ 0 →
      l.last ≡ turned (round_in s l.fn.core l.fn.first.addresses l.fn.second.addresses l.fn.to_move used);
}

abbrev pub decreases-loop-left : goal.decreases-loop-left
decreases-loop-left g l = l.left
