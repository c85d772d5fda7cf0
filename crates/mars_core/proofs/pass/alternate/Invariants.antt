-- Of each pass: both sides have a process in their windows, and the passes that are left make of the round what all make of the first one.
use Rattle.{std.proofs.Common.{◌≡◌, ℕ, ◌+◌, ◌-◌, ◌*◌, ◌≤◌}, war_types.specs.declared.settings.RawSettings.RawSettings}
use Rattle.mars_core.specs.{declared.round.Side.Side, Cells.IsCore, Whole.whole, Round.{after_turns, reach_of, IsQueue}, Passes.round_at, Window.{held, IsWindow}}
use Rattle.mars_core.proofs.pass.alternate.Given as goal

abbrev pub invariant-loop-left : goal.invariant-loop-left
invariant-loop-left g l = record {
  core : IsCore l.size l.core;
  own : IsWindow l.own l.own_places l.mover;
  other : IsWindow l.other l.other_places l.others;
  mover : IsQueue l.size l.mover.limit (held l.own l.own_places l.mover).addresses;
  others : IsQueue l.size l.others.limit (held l.other l.other_places l.others).addresses;
  mover_limit : l.mover.limit ≡ l.fn.mover.limit;
  others_limit : l.others.limit ≡ l.fn.others.limit;
  left : l.left ≤ l.most;
  after : (m : Side) (s : RawSettings) (used : ℕ) → reach_of s ≡ whole l.size → s.processes ≡ l.fn.mover.limit → s.processes ≡ l.fn.others.limit → used + 2 * l.most ≤ 2 * s.cycles →
      after_turns (2 * l.left) (round_at m s l.core (held l.own l.own_places l.mover).addresses (held l.other l.other_places l.others).addresses (used + (2 * l.most - 2 * l.left)))
      ≡ after_turns (2 * l.most) (round_at m s l.fn.core l.fn.mover.addresses l.fn.others.addresses used);
}

abbrev pub decreases-loop-left : goal.decreases-loop-left
decreases-loop-left g l = l.left
