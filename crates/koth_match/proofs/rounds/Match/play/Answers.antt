-- Each round adds its outcome to the counts.
use Rattle.{std.proofs.Common.{◌≡◌, ◌∙◌, ◌+◌, add-one, arith, subst, sym}, koth_match.specs.Match.{bout_before, outcomes_before, rounds_in, AreCounts}}
use Rattle.koth_match.proofs.{Kept.{bout_before-counts, one_more, so_many}, Sequence.seed_of_round-next}
use Rattle.koth_match.proofs.rounds.Match.play.Goals as goal

pub count-requires : goal.count-requires
count-requires g c =
    let n : rounds_in c.loop-round.self.bout ≡ c.loop-round.round = so_many _ _ _ _ _ c.loop-round.invariant.counts in
    omega (arith, n, c.left.ensures.settings.rounds_most, c.requires.played.rounds)

pub loop-round-preserved : goal.loop-round-preserved
loop-round-preserved g c = rw add-one (record {
  counts = one_more _ _ _ _ _ c.loop-round.invariant.counts _ _ _ _ _ _ c.count.ensures c.play_round.ensures.outcome
      (c.loop-round.invariant.settings ∙ c.requires.settings) c.position-position.ensures.value c.loop-round.invariant.seed c.first_in.ensures;
  seed = seed_of_round-next c.args.settings.now c.loop-round.round _ _ c.next_seed-self.ensures.value c.loop-round.invariant.seed;
  in_range = c.next_seed-self.ensures.seed;
  settings = c.play_round.ensures.settings ∙ c.loop-round.invariant.settings;
})

pub returns-clause-counts : goal.returns-clause-counts
returns-clause-counts g c =
    let all : c.loop-round.round ≡ c.args.self.now.round + c.min.result = omega arith in
    subst (AreCounts (outcomes_before c.args.settings.now c.args.older.now c.args.younger.now (c.args.self.now.round + c.min.result)))
    {x = bout_before c.args.settings.now c.args.older.now c.args.younger.now (c.args.self.now.round + c.min.result)} (sym (rw all at c.loop-round.invariant.counts)) (bout_before-counts c.args.settings.now c.args.older.now c.args.younger.now (c.args.self.now.round + c.min.result))

pub returns-clause-played : goal.returns-clause-played
returns-clause-played g c =
    let all : c.loop-round.round ≡ c.args.self.now.round + c.min.result = omega arith in
    record {
      rounds = omega (arith, c.min.ensures, c.left.ensures.value, c.requires.played.rounds);
      bout = rw all at c.loop-round.invariant.counts;
      next = rw all at c.loop-round.invariant.seed;
      seed = c.loop-round.invariant.in_range;
    }
