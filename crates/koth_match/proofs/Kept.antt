-- Turns keep the settings, and matches count their rounds.
use Rattle.{std.proofs.Common.{◌≡◌, ◌∙◌, ℕ, ◌+◌, zero, suc, Bool, true, false, List, map, cond, refl, sym, ap, ap₂, arith, add-one}, std.specs.{Prelude.if◌then◌else◌, List.range_with_len}}
use Rattle.{std.proofs.lemmas.List.FromFn.sum_by-map-range_with_len_more, war_types.specs.{declared.settings.RawSettings.RawSettings, Warrior.WarriorParts}}
use Rattle.{mars_core.specs.{declared.round.Side.Side, declared.round.Outcome.Outcome, Round.{Round, is_over, turn_of, after_side, after_turn, after_turns}}, koth_match.specs.declared.bout.Bout.Bout}
use Rattle.koth_match.specs.{Match.{bout_before, counted, first_in, outcome_at, outcomes_before, round_outcome, rounds_in, is_outcome, times, AreCounts}, Seeds.{position, seed_of_round}}

after_side-settings : (m : Side) (r : Round) → (after_side m (turn_of r).core (turn_of r).queue r).settings ≡ r.settings
after_side-settings Side.First r = refl
after_side-settings Side.Second r = refl

either-settings : (over : Bool) (r next : Round) → next.settings ≡ r.settings → (if over then r else next).settings ≡ r.settings
either-settings true r next e = refl
either-settings false r next e = e

pub after_turn-settings : (r : Round) → (after_turn r).settings ≡ r.settings
unfolding after_turn
after_turn-settings r = either-settings (is_over r) r _ (after_side-settings r.to_move r)

-- n turns keep the settings
pub after_turns-settings : (n : ℕ) (r : Round) → (after_turns n r).settings ≡ r.settings
unfolding after_turns
after_turns-settings zero r = refl
after_turns-settings (suc n) r = after_turns-settings n (after_turn r) ∙ after_turn-settings r

counted-rounds : (o : Outcome) (b : Bout) → rounds_in (counted o b) ≡ suc (rounds_in b)
counted-rounds Outcome.First b = omega arith
counted-rounds Outcome.Second b = omega arith
counted-rounds Outcome.Tie b = omega arith

-- the counts of n rounds add up to n
pub bout_before-rounds : (s : RawSettings) (older younger : WarriorParts) (n : ℕ) → rounds_in (bout_before s older younger n) ≡ n
bout_before-rounds s older younger zero = refl
bout_before-rounds s older younger (suc n) =
    counted-rounds (round_outcome s older younger n) (bout_before s older younger n) ∙ ap suc (bout_before-rounds s older younger n)

-- one round more, which ends like this
AreCounts-more : (ends more : List Outcome) (o : Outcome) (b : Bout) → AreCounts ends b → ((x : Outcome) → times x more ≡ times x ends + cond (is_outcome x o) 1 0) →
    AreCounts more (counted o b)
AreCounts-more ends more Outcome.First b are e = record {
  older_wins = omega (arith, are.older_wins, e Outcome.First);
  younger_wins = omega (arith, are.younger_wins, e Outcome.Second);
  ties = omega (arith, are.ties, e Outcome.Tie);
}
AreCounts-more ends more Outcome.Second b are e = record {
  older_wins = omega (arith, are.older_wins, e Outcome.First);
  younger_wins = omega (arith, are.younger_wins, e Outcome.Second);
  ties = omega (arith, are.ties, e Outcome.Tie);
}
AreCounts-more ends more Outcome.Tie b are e = record {
  older_wins = omega (arith, are.older_wins, e Outcome.First);
  younger_wins = omega (arith, are.younger_wins, e Outcome.Second);
  ties = omega (arith, are.ties, e Outcome.Tie);
}

-- the counts, round after round
pub bout_before-counts : (s : RawSettings) (older younger : WarriorParts) (n : ℕ) → AreCounts (outcomes_before s older younger n) (bout_before s older younger n)
bout_before-counts s older younger zero = record { older_wins = refl; younger_wins = refl; ties = refl }
bout_before-counts s older younger (suc n) =
    let f = round_outcome s older younger in
    let ends : ℕ → List Outcome = λ k. map f (range_with_len 0 k) in
    AreCounts-more (ends n) (ends (suc n)) (f n) (bout_before s older younger n) (bout_before-counts s older younger n)
    (λ x. ap (λ k. times x (ends k)) (sym (add-one n)) ∙ sum_by-map-range_with_len_more (λ o. cond (is_outcome x o) 1 0) f 0 n n (omega arith))

-- the counts of n rounds
module _ (s : RawSettings) (older younger : WarriorParts) (b : Bout) (n : ℕ) (counts : b ≡ bout_before s older younger n) where
  pub so_many : rounds_in b ≡ n
  so_many = ap rounds_in counts ∙ bout_before-rounds s older younger n

  -- and with the next round
  pub one_more : (more : Bout) (o : Outcome) (in_arena : RawSettings) (at seed : ℕ) (first : Side) → more ≡ counted o b
      → o ≡ outcome_at in_arena older younger at first → in_arena ≡ s → at ≡ position s seed → seed ≡ seed_of_round s n
      → first ≡ first_in n → more ≡ bout_before s older younger (suc n)
  unfolding round_outcome
  one_more more o in_arena at seed first counted_now played same there of_round side =
      let as_due : outcome_at in_arena older younger at first ≡ outcome_at s older younger (position s (seed_of_round s n)) (first_in n) = cc in
      counted_now ∙ ap₂ counted (played ∙ as_due) counts
