-- The match of one pair more adds its rounds to those of its two sides, and to no others.
use Rattle.std.proofs.Common.{◌≡◌, inl, inr, ◌⊎◌, ℕ, ◌+◌, ◌*◌, ◌<◌, ◌≤◌, ◌≢◌, List, [], ◌∷◌, ◌++◌, length, get_or, replicate, All, sym, ap, ap₂, ◌∙◌, subst, arith}
use Rattle.std.{proofs.lemmas.{Bool.{cases_eq, cond-true, cond-false, eq-eqb, ne_eqb}, List.{get_or-set_same, get_or-set_other, get_or-replicate, length-append, length-replicate, length-set}, List.Sums.sum_by_push}}
use Rattle.std.proofs.lemmas.List.{FromFn.{fill_by_all, get_or-map-range_with_len, length-map-range_with_len}, Elements.{All-get_or, All-set, All-weaker}}
use Rattle.{koth_text.specs.declared.tally.Tally.Tally, koth_standings.specs.{declared.pairs.Pair.Pair, Pairs.IsPair}}
use Rattle.koth_standings.specs.Standings.{AreStandings, StandingsParts, at_place, both, counts_of, most_matches, most_rounds, no_rounds, rounds_in, rounds_of, rounds_of_side, tally, turned, with_match}

zero_more : (won lost tied : ℕ) → both (tally won lost tied) no_rounds ≡ tally won lost tied
zero_more won lost tied =
    let same_won : won + 0 ≡ won = omega arith in
    let same_lost : lost + 0 ≡ lost = omega arith in
    let same_tied : tied + 0 ≡ tied = omega arith in
    cc

module _ (match_of : Pair → Tally) (ps : List Pair) (p : Pair) where
  more_rounds : (k : ℕ) → rounds_of match_of (ps ++ p ∷ []) k ≡ both (rounds_of match_of ps k) (rounds_of_side k p (match_of p))
  more_rounds k =
      let won = sum_by_push (λ (x : Pair). (rounds_of_side k x (match_of x)).won) ps p in
      let lost = sum_by_push (λ (x : Pair). (rounds_of_side k x (match_of x)).lost) ps p in
      let tied = sum_by_push (λ (x : Pair). (rounds_of_side k x (match_of x)).tied) ps p in
      cc

  older_side : (k : ℕ) → k ≡ p.older → rounds_of_side k p (match_of p) ≡ match_of p
  older_side k is = cond-true _ _ _ (eq-eqb k p.older is)

  younger_side : (k : ℕ) → (k ≡ p.older → ⊥) → k ≡ p.younger → rounds_of_side k p (match_of p) ≡ turned (match_of p)
  younger_side k other is = cond-false _ _ _ (ne_eqb k p.older other) ∙ cond-true _ _ _ (eq-eqb k p.younger is)

  other_side : (k : ℕ) → (k ≡ p.older → ⊥) → (k ≡ p.younger → ⊥) → rounds_of_side k p (match_of p) ≡ no_rounds
  other_side k other another = cond-false _ _ _ (ne_eqb k p.older other) ∙ cond-false _ _ _ (ne_eqb k p.younger another)

  module _ (n : ℕ) (is : IsPair n p) where
    counts : List Tally
    counts = counts_of match_of n ps

    now : (k : ℕ) → k < n → (d : Tally) → get_or (counts_of match_of n ps) k d ≡ rounds_of match_of ps k
    now k within d = get_or-map-range_with_len (rounds_of match_of ps) 0 n k k d within (omega arith)

    many : length (counts_of match_of n ps) ≡ n
    many = length-map-range_with_len (rounds_of match_of ps) 0 n

    at_older : (d : Tally) → get_or (with_match (counts_of match_of n ps) p (match_of p)) p.older d ≡ both (rounds_of match_of ps p.older) (match_of p)
    at_older d =
        let older_in : p.older < n = omega (arith, is.apart, is.within) in
        let apart : p.older ≢ p.younger = λ same. omega (arith, is.apart, same) in
        get_or-set_other _ p.younger p.older _ d apart
        ∙ get_or-set_same (counts_of match_of n ps) p.older _ d (subst (λ l. p.older < l) (sym many) older_in)
        ∙ ap (λ t. both t (match_of p)) (now p.older older_in no_rounds)

    at_younger : (d : Tally) → get_or (with_match (counts_of match_of n ps) p (match_of p)) p.younger d ≡ both (rounds_of match_of ps p.younger) (turned (match_of p))
    at_younger d =
        get_or-set_same _ p.younger _ d (subst (λ l. p.younger < l) (sym (length-set (counts_of match_of n ps) p.older _ ∙ many)) is.within)
        ∙ ap (λ t. both t (turned (match_of p))) (now p.younger is.within no_rounds)

    at_other : (k : ℕ) → k < n → (k ≡ p.older → ⊥) → (k ≡ p.younger → ⊥) → (d : Tally)
        → get_or (with_match (counts_of match_of n ps) p (match_of p)) k d ≡ rounds_of match_of ps k
    at_other k within other another d =
        get_or-set_other _ p.younger k _ d another ∙ get_or-set_other (counts_of match_of n ps) p.older k _ d other ∙ now k within d

    at_each : (d : Tally) (k : ℕ) → k < n → (k ≡ p.older) ⊎ (k ≡ p.older → ⊥) → (k ≡ p.younger) ⊎ (k ≡ p.younger → ⊥)
        → get_or (with_match (counts_of match_of n ps) p (match_of p)) k d ≡ rounds_of match_of (ps ++ p ∷ []) k
    at_each d k within (inl older) y =
        ap (λ m. get_or (with_match (counts_of match_of n ps) p (match_of p)) m d) older ∙ at_older d
        ∙ ap₂ both (ap (rounds_of match_of ps) (sym older)) (sym (older_side k older)) ∙ sym (more_rounds k)
    at_each d k within (inr other) (inl younger) =
        ap (λ m. get_or (with_match (counts_of match_of n ps) p (match_of p)) m d) younger ∙ at_younger d
        ∙ ap₂ both (ap (rounds_of match_of ps) (sym younger)) (sym (younger_side k other younger)) ∙ sym (more_rounds k)
    at_each d k within (inr other) (inr another) =
        at_other k within other another d ∙ sym (zero_more _ _ _) ∙ ap (both (rounds_of match_of ps k)) (sym (other_side k other another)) ∙ sym (more_rounds k)

    pub one_match : with_match (counts_of match_of n ps) p (match_of p) ≡ counts_of match_of n (ps ++ p ∷ [])
    one_match = fill_by_all (rounds_of match_of (ps ++ p ∷ [])) (with_match (counts_of match_of n ps) p (match_of p)) n no_rounds
        (length-set _ p.younger _ ∙ length-set (counts_of match_of n ps) p.older _ ∙ many)
        (λ k within. at_each no_rounds k within (cases_eq k p.older) (cases_eq k p.younger))

-- before the first match
pub none_added : (match_of : Pair → Tally) (n : ℕ) (xs : List Tally) → xs ≡ replicate n no_rounds → xs ≡ counts_of match_of n []
none_added match_of n xs is = fill_by_all (rounds_of match_of []) xs n no_rounds (ap length is ∙ length-replicate n no_rounds)
    (λ k within. ap (λ l. get_or l k no_rounds) is ∙ get_or-replicate n k no_rounds no_rounds within)

pub one_longer : (ps : List Pair) (p : Pair) → length (ps ++ p ∷ []) ≡ length ps + 1
one_longer ps p = length-append ps (p ∷ [])

-- there is room for the rounds of one match more
pub room_left : (s : StandingsParts) → AreStandings s → All (λ x. rounds_in x ≤ most_rounds * most_matches) s.counts
room_left s are = All-weaker (λ x. rounds_in x ≤ most_rounds * s.matches) (λ x. rounds_in x ≤ most_rounds * most_matches)
    (λ x le. let few = are.few in omega (arith, le, few)) s.counts are.rounds

-- no place gets more rounds than its matches may have
module _ (s : StandingsParts) (p : Pair) (t : Tally) where
  pub still_few : AreStandings s → IsPair (length s.counts) p → rounds_in t ≤ most_rounds
      → All (λ x. rounds_in x ≤ most_rounds * (s.matches + 1)) (with_match s.counts p t)
  still_few are is few =
      let P = λ (x : Tally). rounds_in x ≤ most_rounds * (s.matches + 1) in
      let older_in : p.older < length s.counts = omega (arith, is.apart, is.within) in
      let older = All-get_or (λ x. rounds_in x ≤ most_rounds * s.matches) s.counts p.older no_rounds older_in are.rounds in
      let younger = All-get_or (λ x. rounds_in x ≤ most_rounds * s.matches) s.counts p.younger no_rounds is.within are.rounds in
      All-set P _ p.younger (both (at_place s.counts p.younger) (turned t)) (omega (arith, younger, few))
      (All-set P s.counts p.older (both (at_place s.counts p.older) t) (omega (arith, older, few))
      (All-weaker (λ x. rounds_in x ≤ most_rounds * s.matches) P (λ x le. omega (arith, le)) s.counts are.rounds))
