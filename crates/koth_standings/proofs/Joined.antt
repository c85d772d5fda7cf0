-- The rounds of one part more.
use Rattle.std.proofs.Common.{◌≡◌, ◌≢◌, ◌⊎◌, inl, inr, set, ℕ, ◌+◌, ◌*◌, ◌<◌, ◌≤◌, List, [], ◌∷◌, ◌++◌, length, get_or, map, All, refl, sym, ap, ap₂, ◌∙◌, subst, arith}
use Rattle.std.{specs.List.range_with_len, proofs.lemmas.Bool.cases_eq, proofs.lemmas.List.{get_or-set_same, get_or-set_other, Sums.sum_by_push, Elements.{All-from_get_or, All-get_or, All-weaker}, FromFn.{fill_by_all, get_or-map-range_with_len, length-map-range_with_len}}}
use Rattle.{koth_text.specs.declared.tally.Tally.Tally, koth_standings.specs.{Parts.{added_up, sums_at, sums_of}, Standings.{AreStandings, StandingsParts, at_place, both, most_matches, most_rounds, no_rounds, rounds_in}}}

one_part : (parts : List (List Tally)) (part : List Tally) (place : ℕ) → both (sums_at parts place) (at_place part place) ≡ sums_at (parts ++ part ∷ []) place
one_part parts part place =
    let won = sum_by_push (λ (c : List Tally). (at_place c place).won) parts part in
    let lost = sum_by_push (λ (c : List Tally). (at_place c place).lost) parts part in
    let tied = sum_by_push (λ (c : List Tally). (at_place c place).tied) parts part in
    cc

-- the sums of the parts so far, with those of one part more
pub sums_with : (n : ℕ) (parts : List (List Tally)) (counts part : List Tally) → length counts ≡ n → counts ≡ sums_of n parts
    → added_up counts part ≡ sums_of n (parts ++ part ∷ [])
sums_with n parts counts part many is =
    fill_by_all (sums_at (parts ++ part ∷ [])) (added_up counts part) n no_rounds
    (length-map-range_with_len (λ place. both (at_place counts place) (at_place part place)) 0 (length counts) ∙ many)
    (λ k below.
    get_or-map-range_with_len (λ place. both (at_place counts place) (at_place part place)) 0 (length counts) k k no_rounds (omega (arith, many, below)) (omega arith)
    ∙ ap (λ t. both t (at_place part k)) (ap (λ l. get_or l k no_rounds) is ∙ get_or-map-range_with_len (sums_at parts) 0 n k k no_rounds below (omega arith))
    ∙ one_part parts part k)

-- each place was written once
pub all_up : (counts part new : List Tally) → length new ≡ length counts
    → ((k : ℕ) → k < length counts → get_or new k no_rounds ≡ both (at_place counts k) (at_place part k)) → new ≡ added_up counts part
all_up counts part new many are = fill_by_all (λ place. both (at_place counts place) (at_place part place)) new (length counts) no_rounds many are

-- there is room for the rounds of both at a place
pub room_at : (counts part : List Tally) (place : ℕ) → All (λ t. rounds_in t ≤ most_rounds * most_matches) counts → place < length counts
    → rounds_in (at_place counts place) ≤ most_rounds * most_matches
room_at counts part place few below = All-get_or (λ t. rounds_in t ≤ most_rounds * most_matches) counts place no_rounds below few

pub part_is_few : (part : List Tally) (matches : ℕ) → matches ≤ most_matches → All (λ t. rounds_in t ≤ most_rounds * matches) part
    → All (λ t. rounds_in t ≤ most_rounds * most_matches) part
part_is_few part matches few all = All-weaker (λ t. rounds_in t ≤ most_rounds * matches) (λ t. rounds_in t ≤ most_rounds * most_matches) (λ t le. omega (arith, le, few)) part all

-- no place gets more rounds than its matches may have
pub still_few_up : (counts part : List Tally) (old matches : ℕ) → length part ≡ length counts → All (λ t. rounds_in t ≤ most_rounds * old) counts
    → All (λ t. rounds_in t ≤ most_rounds * matches) part → All (λ t. rounds_in t ≤ most_rounds * (old + matches)) (added_up counts part)
still_few_up counts part old matches many before more =
    All-from_get_or (λ t. rounds_in t ≤ most_rounds * (old + matches)) (added_up counts part) no_rounds
    (λ k within.
    let below : k < length counts = omega (arith, within, length-map-range_with_len (λ place. both (at_place counts place) (at_place part place)) 0 (length counts)) in
    let mine = All-get_or (λ t. rounds_in t ≤ most_rounds * old) counts k no_rounds below before in
    let its = All-get_or (λ t. rounds_in t ≤ most_rounds * matches) part k no_rounds (omega (arith, below, many)) more in
    let is = get_or-map-range_with_len (λ place. both (at_place counts place) (at_place part place)) 0 (length counts) k k no_rounds below (omega arith) in
    subst (λ t. rounds_in t ≤ most_rounds * (old + matches)) (sym is) (omega (arith, mine, its)))

-- the place after those that were written is written
module _ (counts part now : List Tally) (at : ℕ) (many : length now ≡ length counts) (below : at < length counts) where
  by_case : (k : ℕ) → ((j : ℕ) → j < at → get_or now j no_rounds ≡ both (at_place counts j) (at_place part j)) → k < at + 1 → (k ≡ at) ⊎ (k ≡ at → ⊥)
      → get_or (set now at (both (at_place counts at) (at_place part at))) k no_rounds ≡ both (at_place counts k) (at_place part k)
  by_case k before early (inl is) =
      ap (λ j. get_or (set now at (both (at_place counts at) (at_place part at))) j no_rounds) is
      ∙ get_or-set_same now at _ no_rounds (omega (arith, many, below)) ∙ ap (λ j. both (at_place counts j) (at_place part j)) (sym is)
  by_case k before early (inr other) = get_or-set_other now at k _ no_rounds other ∙ before k (omega (arith, early, other))

  pub placed : ((k : ℕ) → k < at → get_or now k no_rounds ≡ both (at_place counts k) (at_place part k))
      → (k : ℕ) → k < at + 1 → get_or (set now at (both (at_place counts at) (at_place part at))) k no_rounds ≡ both (at_place counts k) (at_place part k)
  placed before k early = by_case k before early (cases_eq k at)

  pub kept : ((k : ℕ) → at ≤ k → get_or now k no_rounds ≡ at_place counts k)
      → (t : Tally) (k : ℕ) → at + 1 ≤ k → get_or (set now at t) k no_rounds ≡ at_place counts k
  kept before t k late =
      let other : k ≢ at = λ is. omega (arith, late, is) in
      get_or-set_other now at k t no_rounds other ∙ before k (omega (arith, late))
