-- The seed is that of this round.
use Rattle.{std.proofs.Common.◌≡◌, koth_match.specs.Seeds.{seed_of_round, IsSeed}}
use Rattle.koth_match.proofs.seeds.seed_of_round.Given as goal

abbrev pub invariant-loop-round : goal.invariant-loop-round
invariant-loop-round l = record {
  seed : l.seed ≡ seed_of_round l.settings l._round;
  in_range : IsSeed l.seed;
}
