-- A round that was begun and played is a round of the match, and the text has all rounds.
use Rattle.std.{proofs.{Common.{◌≡◌, ◌∙◌, ℕ, ◌+◌, ◌-◌, ◌*◌, List, [], ◌∷◌, ◌++◌, map, refl, sym, ap, subst, arith, append-nil}, lemmas.List.FromFn.map-range_with_len_more}, specs.List.{flat_map, range_with_len}}
use Rattle.{std.proofs.lemmas.List.Concat.flat_map-append, war_types.specs.{Warrior.WarriorParts, declared.settings.RawSettings.RawSettings}}
use Rattle.mars_core.specs.{declared.round.{Outcome.Outcome, Side.Side}, Round.{Round, after_turns, opening, outcome}}
use Rattle.{koth_match.specs.{Match.{AreCounts, bout_before, first_in, match_of, round_outcome}, Seeds.{position, seed_of_round}}, koth_match.proofs.Kept.bout_before-counts}
use Rattle.{koth_replay.specs.Replay.turns_in, koth_words.specs.declared.requests.View.View}
use Rattle.koth_contests.specs.{Rounds.{IsEach, round_line, round_of, rounds_before, rounds_heading}, declared.rounds.Played.Played}

abbrev played : ℕ → ℕ → ℕ → Side → Outcome → ℕ → Played
played number seed at mover ends turns = record { number = number; seed = seed; position = at; first = mover; outcome = ends; turns = turns }

module _ (s : RawSettings) (older younger : WarriorParts) (r : ℕ) where
  all_turns : (begun ended : Round) → begun ≡ opening s older younger (position s (seed_of_round s r)) (first_in r)
      → ended ≡ after_turns (2 * begun.settings.cycles - begun.used) begun
      → ended ≡ after_turns (2 * s.cycles) (opening s older younger (position s (seed_of_round s r)) (first_in r))
  all_turns begun ended is plays =
      let due = opening s older younger (position s (seed_of_round s r)) (first_in r) in
      let whole : 2 * s.cycles - 0 ≡ 2 * s.cycles = omega arith in
      plays ∙ ap (λ (b : Round). after_turns (2 * b.settings.cycles - b.used) b) is ∙ ap (λ n. after_turns n due) whole

  pub is_round : (number seed at turns : ℕ) (mover : Side) (ends : Outcome) (a : RawSettings) (begun ended : Round) → a ≡ s → number ≡ r + 1
      → seed ≡ seed_of_round s r → at ≡ position s seed → mover ≡ first_in r → begun ≡ opening a older younger at mover
      → ended ≡ after_turns (2 * begun.settings.cycles - begun.used) begun → ends ≡ outcome ended → turns ≡ ended.used
      → played number seed at mover ends turns ≡ round_of s older younger r
  unfolding round_outcome
  is_round number seed at turns mover ends a begun ended same is_number is_seed is_at is_first begins plays is_end is_turns =
      let due : begun ≡ opening s older younger (position s (seed_of_round s r)) (first_in r) = cc in
      let all = all_turns begun ended due plays in
      let there : at ≡ position s (seed_of_round s r) = cc in
      let over : ends ≡ outcome (after_turns (2 * s.cycles) (opening s older younger (position s (seed_of_round s r)) (first_in r))) = cc in
      let took : turns ≡ turns_in s older younger r = cc in
      cc

  -- one round more
  pub more_rounds : (view : View) → flat_map (round_line view) (rounds_before s older younger (r + 1))
      ≡ flat_map (round_line view) (rounds_before s older younger r) ++ round_line view (round_of s older younger r)
  more_rounds view =
      let f = round_line view in
      let g = round_of s older younger in
      ap (flat_map f) (map-range_with_len_more g 0 r r (omega arith)) ∙ flat_map-append f (rounds_before s older younger r) (g r ∷ [])
      ∙ ap (λ l. flat_map f (rounds_before s older younger r) ++ l) (append-nil (f (g r)))

outcomes-played : (f : ℕ → Played) (ns : List ℕ) → map (λ (p : Played). p.outcome) (map f ns) ≡ map (λ n. (f n).outcome) ns
outcomes-played f [] = refl
outcomes-played f (n ∷ ns) = ap (λ l. (f n).outcome ∷ l) (outcomes-played f ns)

-- the text of all rounds
pub each_is : (s : RawSettings) (older younger : WarriorParts) (view : View) (text : List ℕ)
    → text ≡ rounds_heading view ++ flat_map (round_line view) (rounds_before s older younger s.rounds) → IsEach s view older younger text
unfolding match_of
each_is s older younger view text tells =
    let ends = outcomes-played (round_of s older younger) (range_with_len 0 s.rounds) in
    record {
      rounds = rounds_before s older younger s.rounds;
      played = refl;
      counts = subst (λ l. AreCounts l (bout_before s older younger s.rounds)) (sym ends) (bout_before-counts s older younger s.rounds);
      tells = tells;
    }
