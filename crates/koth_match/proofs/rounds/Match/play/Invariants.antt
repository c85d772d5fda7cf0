-- The counts are those of the rounds before this one, and the seed is this one's.
use Rattle.{std.proofs.Common.◌≡◌, koth_match.specs.{Match.bout_before, Seeds.{seed_of_round, IsSeed}}}
use Rattle.koth_match.proofs.rounds.Match.play.Given as goal

abbrev pub invariant-loop-round : goal.invariant-loop-round
invariant-loop-round g l = record {
  counts : l.self.bout ≡ bout_before l.settings l.older l.younger l.round;
  seed : l.self.seed ≡ seed_of_round l.settings l.round;
  in_range : IsSeed l.self.seed;
  settings : l.arena.settings ≡ l.fn.arena.settings;
}
