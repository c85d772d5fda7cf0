-- Each round before it leads to the next seed.
use Rattle.{std.proofs.Common.{◌≡◌, add-one, arith}, koth_match.proofs.Sequence.seed_of_round-next}
use Rattle.koth_match.proofs.seeds.seed_of_round.Goals as goal

pub loop-round-preserved : goal.loop-round-preserved
loop-round-preserved c = rw add-one (record {
  seed = seed_of_round-next c.args.settings.now c.loop-round._round _ _ c.next_seed-seed.ensures.value c.loop-round.invariant.seed;
  in_range = c.next_seed-seed.ensures.seed;
})

pub returns-clause-value : goal.returns-clause-value
returns-clause-value c =
    let all : c.loop-round._round ≡ c.args.round = omega arith in
    rw all at c.loop-round.invariant.seed
