-- The parts of a list share it out.
use Rattle.std.proofs.Common.{◌≡◌, ℕ, zero, suc, ◌+◌, ◌-◌, ◌<◌, ◌≤◌, List, [], ◌∷◌, length, map, refl, sym, ap, ap₂, ◌∙◌, zero-add, arith}
use Rattle.std.{specs.List.{range_with_len, sum_by}, proofs.lemmas.List.{Sums.sum_by-append, FromFn.{fill_by_all, get_or-map-range_with_len, length-map-range_with_len}}}
use Rattle.{koth_text.specs.declared.tally.Tally.Tally, koth_standings.specs.{declared.pairs.Pair.Pair, Parts.{SharesOut, each_nth, numbers, part_of, sums_at, sums_of}, Standings.{at_place, counts_of, no_rounds, rounds_of, rounds_of_side}}}

-- ---- the members of a part

-- a pair of another part is passed
pub passed : {X : Type 0} (count skipped : ℕ) (x : X) (xs : List X) → 0 < skipped → each_nth count skipped (x ∷ xs) ≡ each_nth count (skipped - 1) xs
passed count zero x xs more = absurd (omega (arith, more))
passed count (suc skipped) x xs more =
    let same : skipped ≡ suc skipped - 1 = omega arith in
    ap (λ j. each_nth count j xs) same

-- the only part is the list
pub only_part : {X : Type 0} (xs : List X) → each_nth 1 0 xs ≡ xs
only_part [] = refl
only_part (x ∷ xs) = ap (λ l. x ∷ l) (only_part xs)

-- a part isn't longer than the list
pub few_of_part : {X : Type 0} (count skipped : ℕ) (xs : List X) → length (each_nth count skipped xs) ≤ length xs
few_of_part count skipped [] = omega arith
few_of_part count zero (x ∷ xs) =
    let few = few_of_part count (count - 1) xs in
    omega (arith, few)
few_of_part count (suc skipped) (x ∷ xs) =
    let few = few_of_part count skipped xs in
    omega (arith, few)

-- ---- sums over ranges

one_term : {X : Type 0} (f : X → ℕ) (x : X) (xs : List X) → sum_by f (x ∷ xs) ≡ f x + sum_by f xs
one_term f x xs = sum_by-append f (x ∷ []) xs ∙ ap (λ n. n + sum_by f xs) (zero-add (f x))

-- a sum over numbers from a + 1 on is one over those from a on
shifted : (g : ℕ → ℕ) (a n : ℕ) → sum_by g (range_with_len (a + 1) n) ≡ sum_by (λ k. g (k + 1)) (range_with_len a n)
shifted g a zero = refl
shifted g a (suc n) =
    one_term g (a + 1) (range_with_len (a + 1 + 1) n) ∙ ap (λ s. g (a + 1) + s) (shifted g (a + 1) n)
    ∙ sym (one_term (λ k. g (k + 1)) a (range_with_len (a + 1) n))

-- the last term of a sum over a range
last_term : (g : ℕ → ℕ) (a n : ℕ) → sum_by g (range_with_len a (suc n)) ≡ sum_by g (range_with_len a n) + g (a + n)
last_term g a zero =
    let at : a + 0 ≡ a = omega arith in
    let same : g (a + 0) ≡ g a = ap g at in
    omega (arith, same)
last_term g a (suc n) =
    let at : a + 1 + n ≡ a + suc n = omega arith in
    let same : g (a + 1 + n) ≡ g (a + suc n) = ap g at in
    let behind = last_term g (a + 1) n in
    let longer = one_term g a (range_with_len (a + 1) (suc n)) in
    let shorter = one_term g a (range_with_len (a + 1) n) in
    omega (arith, behind, longer, shorter, same)

-- sums of equal terms
same_terms : {X : Type 0} (f g : X → ℕ) → ((x : X) → f x ≡ g x) → (xs : List X) → sum_by f xs ≡ sum_by g xs
same_terms f g same [] = refl
same_terms f g same (x ∷ xs) = one_term f x xs ∙ ap₂ (λ a b. a + b) (same x) (same_terms f g same xs) ∙ sym (one_term g x xs)

no_terms : (a n : ℕ) → sum_by (λ (k : ℕ). 0) (range_with_len a n) ≡ 0
no_terms a zero = refl
no_terms a (suc n) = no_terms (a + 1) n

over_map : {X Y : Type 0} (g : Y → ℕ) (h : X → Y) (xs : List X) → sum_by g (map h xs) ≡ sum_by (λ x. g (h x)) xs
over_map g h [] = refl
over_map g h (x ∷ xs) = one_term g (h x) (map h xs) ∙ ap (λ s. g (h x) + s) (over_map g h xs) ∙ sym (one_term (λ y. g (h y)) x xs)

-- ---- what the parts count

module _ {X : Type 0} (f : X → ℕ) (m : ℕ) where
  -- what the part counts that skips so many
  of_part : List X → ℕ → ℕ
  of_part xs skipped = sum_by f (each_nth (suc m) skipped xs)

  first_part : (x : X) (xs : List X) → of_part (x ∷ xs) 0 ≡ f x + of_part xs m
  unfolding of_part
  first_part x xs =
      let same : suc m - 1 ≡ m = omega arith in
      one_term f x (each_nth (suc m) (suc m - 1) xs) ∙ ap (λ j. f x + sum_by f (each_nth (suc m) j xs)) same

  later_part : (x : X) (xs : List X) (k : ℕ) → of_part (x ∷ xs) (k + 1) ≡ of_part xs k
  unfolding of_part
  later_part x xs k =
      let same : k + 1 ≡ suc k = omega arith in
      ap (λ j. sum_by f (each_nth (suc m) j (x ∷ xs))) same

  no_parts : (k : ℕ) → of_part [] k ≡ 0
  unfolding of_part
  no_parts k = refl

  all_parts : (xs : List X) → sum_by (of_part xs) (range_with_len 0 (suc m)) ≡ sum_by f xs
  all_parts [] = same_terms (of_part []) (λ k. 0) no_parts (range_with_len 0 (suc m)) ∙ no_terms 0 (suc m)
  all_parts (x ∷ xs) =
      let begin = first_part x xs in
      let later = shifted (of_part (x ∷ xs)) 0 m ∙ same_terms (λ k. of_part (x ∷ xs) (k + 1)) (of_part xs) (later_part x xs) (range_with_len 0 m) in
      let last = last_term (of_part xs) 0 m in
      let at : 0 + m ≡ m = omega arith in
      let same : of_part xs (0 + m) ≡ of_part xs m = ap (of_part xs) at in
      let others = all_parts xs in
      let sums : (f x + of_part xs m) + sum_by (of_part xs) (range_with_len 0 m) ≡ f x + sum_by f xs = omega (arith, last, same, others) in
      one_term (of_part (x ∷ xs)) 0 (range_with_len 1 m) ∙ ap₂ (λ a b. a + b) begin later ∙ sums ∙ sym (one_term f x xs)

  numbered : (xs : List X) → sum_by (λ number. sum_by f (part_of number (suc m) xs)) (numbers (suc m)) ≡ sum_by f xs
  unfolding of_part
  numbered xs =
      shifted (λ number. sum_by f (each_nth (suc m) (number - 1) xs)) 0 (suc m)
      ∙ same_terms (λ k. sum_by f (each_nth (suc m) (k + 1 - 1) xs)) (of_part xs)
      (λ k. let same : k + 1 - 1 ≡ k = omega arith in ap (λ j. sum_by f (each_nth (suc m) j xs)) same) (range_with_len 0 (suc m))
      ∙ all_parts xs

pub shares_out : {X : Type 0} (count : ℕ) (xs : List X) → 1 ≤ count → SharesOut count xs
shares_out zero xs some f = absurd (omega (arith, some))
shares_out (suc m) xs some f = numbered f m xs

-- ---- the rounds of the parts

module _ (match_of : Pair → Tally) (n count : ℕ) (ps : List Pair) (shared : SharesOut count ps) (place : ℕ) (below : place < n) where
  here : (qs : List Pair) → at_place (counts_of match_of n qs) place ≡ rounds_of match_of qs place
  here qs = get_or-map-range_with_len (rounds_of match_of qs) 0 n place place no_rounds below (omega arith)

  side : (part : Tally → ℕ) → ((qs : List Pair) → part (rounds_of match_of qs place) ≡ sum_by (λ p. part (rounds_of_side place p (match_of p))) qs)
      → sum_by (λ c. part (at_place c place)) (map (λ k. counts_of match_of n (part_of k count ps)) (numbers count)) ≡ part (rounds_of match_of ps place)
  side part is =
      over_map (λ (c : List Tally). part (at_place c place)) (λ k. counts_of match_of n (part_of k count ps)) (numbers count)
      ∙ same_terms (λ k. part (at_place (counts_of match_of n (part_of k count ps)) place)) (λ k. sum_by (λ p. part (rounds_of_side place p (match_of p))) (part_of k count ps))
      (λ k. ap part (here (part_of k count ps)) ∙ is (part_of k count ps)) (numbers count)
      ∙ shared (λ p. part (rounds_of_side place p (match_of p)))
      ∙ sym (is ps)

  pub sums_are : sums_at (map (λ k. counts_of match_of n (part_of k count ps)) (numbers count)) place ≡ rounds_of match_of ps place
  sums_are =
      let won = side (λ t. t.won) (λ qs. refl) in
      let lost = side (λ t. t.lost) (λ qs. refl) in
      let tied = side (λ t. t.tied) (λ qs. refl) in
      cc

pub counts_shared : (match_of : Pair → Tally) (n count : ℕ) (ps : List Pair) → SharesOut count ps
    → sums_of n (map (λ k. counts_of match_of n (part_of k count ps)) (numbers count)) ≡ counts_of match_of n ps
counts_shared match_of n count ps shared =
    let parts = map (λ k. counts_of match_of n (part_of k count ps)) (numbers count) in
    fill_by_all (rounds_of match_of ps) (sums_of n parts) n no_rounds (length-map-range_with_len (sums_at parts) 0 n)
    (λ k below. get_or-map-range_with_len (sums_at parts) 0 n k k no_rounds below (omega arith) ∙ sums_are match_of n count ps shared k below)
