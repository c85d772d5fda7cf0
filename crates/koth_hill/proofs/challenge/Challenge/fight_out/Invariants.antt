-- The challenge is one of this warrior to this hill.
use Rattle.{std.proofs.Common.{◌≡◌, ◌*◌, ◌-◌, length}, koth_hill.specs.Challenge.IsUnderWay}
use Rattle.koth_hill.proofs.challenge.Challenge.fight_out.Given as goal

abbrev pub invariant-loop-verdict : goal.invariant-loop-verdict
invariant-loop-verdict g l = record {
  under_way : IsUnderWay l.hill l.challenger l.self;
  arena : l.arena.settings ≡ l.fn.arena.settings;
}

abbrev pub decreases-loop-verdict : goal.decreases-loop-verdict
decreases-loop-verdict g l = 1001 * (length l.hill.members - length l.self.bouts) - l.self.under_way.round
