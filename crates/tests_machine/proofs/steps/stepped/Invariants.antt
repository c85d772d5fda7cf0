-- The challenge is one of this warrior to this hill.
use Rattle.{std.proofs.Common.◌≡◌, koth_hill.specs.Challenge.IsUnderWay}
use Rattle.tests_machine.proofs.steps.stepped.Given as goal

abbrev pub invariant-loop-steps : goal.invariant-loop-steps
invariant-loop-steps g l = record {
  under_way : IsUnderWay l.hill l.challenger l.challenge;
  arena : l.arena.settings ≡ l.fn.arena.settings;
}
