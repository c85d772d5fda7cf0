-- Sorted keys are a ranking.
use Rattle.std.proofs.Common.{◌≡◌, inl, inr, ◌⊎◌, ℕ, ◌+◌, ◌<◌, ◌≤◌, false, List, Result, Ok, Err, IfOk, Vec, length, map, get_or, All, refl, sym, ap, subst, ◌∙◌, arith}
use Rattle.std.{specs.{Prelude.{IsPermutation, IsSorted}, List.range_with_len, Ordering.{is_lt, nat_cmp, ordering_then}, declared.cmp.{Reverse.Reverse}, declared.cmp.Ordering.TheVariants.{Less, Equal}}}
use Rattle.std.proofs.lemmas.{Bool.{both_ways, cases_lt, cases_order, cond-true, cond-false, eq-eqb, lt-ltb, le-ltb}, List.{get_or-map, length-map, map-id}, Simd.map-map}
use Rattle.std.proofs.lemmas.List.{Elements.{All-from_get_or, All-get_or, All-map}, Sorted.{All-permutation, IsPermutation-map}}
use Rattle.{koth_text.specs.declared.tally.Tally.Tally, koth_standings.specs.Ranking.{IsBefore, IsRanking, key_at, keys_of, places_of, points_at}}

less : (a b : ℕ) → a < b → nat_cmp a b ≡ Less
less a b below = cond-true _ _ _ (lt-ltb a b below)

equal : (a b : ℕ) → a ≡ b → nat_cmp a b ≡ Equal
equal a b same = cond-false _ _ _ (le-ltb a b (omega (arith, same))) ∙ cond-true _ _ _ (eq-eqb a b same)

tied : (a b x y : ℕ) → a ≡ b → is_lt (ordering_then (nat_cmp a b) (nat_cmp x y)) ≡ false → (x < y) ⊎ (y ≤ x) → y ≤ x
tied a b x y same not_less (inr le) = le
tied a b x y same not_less (inl below) =
    absurd (both_ways _ not_less (ap (λ o. is_lt (ordering_then o (nat_cmp x y))) (equal a b same) ∙ ap is_lt (less x y below)))

not_after : (a b x y : ℕ) → is_lt (ordering_then (nat_cmp a b) (nat_cmp x y)) ≡ false → (a ≡ b) ⊎ ((a < b) ⊎ (b < a)) → (b < a) ⊎ ((a ≡ b) × (y ≤ x))
not_after a b x y not_less (inl same) = inr (same, tied a b x y same not_less (cases_lt x y))
not_after a b x y not_less (inr (inl below)) = absurd (both_ways _ not_less (ap (λ o. is_lt (ordering_then o (nat_cmp x y))) (less a b below)))
not_after a b x y not_less (inr (inr above)) = inl above

module _ (counts : List Tally) (keys : List (Reverse ℕ × ℕ)) (moved : IsPermutation (keys_of counts) keys)
    (sorted : IsSorted (λ (x y : Reverse ℕ × ℕ). ordering_then (nat_cmp y.0.0 x.0.0) (nat_cmp x.1 y.1)) keys) where
  each : IsPermutation (range_with_len 0 (length counts)) (places_of keys)
  each = subst (λ l. IsPermutation l (places_of keys))
      {x = places_of (keys_of counts)} (map-map (λ (k : Reverse ℕ × ℕ). k.1) (key_at counts) (range_with_len 0 (length counts)) ∙ map-id (range_with_len 0 (length counts)))
      (IsPermutation-map (λ (k : Reverse ℕ × ℕ). k.1) (keys_of counts) keys moved)

  have_points : (ps : List ℕ) → All (λ (k : Reverse ℕ × ℕ). k.0.0 ≡ points_at counts k.1) (map (key_at counts) ps)
  have_points ps = All-map (λ (k : Reverse ℕ × ℕ). k.0.0 ≡ points_at counts k.1) (key_at counts) ps (All-from_get_or (λ (x : ℕ). points_at counts x ≡ points_at counts x) ps 0 (λ i within. refl {a = points_at counts (get_or ps i 0)}))

  points_here : (i : ℕ) → i < length keys → (d : Reverse ℕ × ℕ) → (get_or keys i d).0.0 ≡ points_at counts (get_or keys i d).1
  points_here i within d = All-get_or (λ (k : Reverse ℕ × ℕ). k.0.0 ≡ points_at counts k.1) keys i d within
      (All-permutation (λ (k : Reverse ℕ × ℕ). k.0.0 ≡ points_at counts k.1) (keys_of counts) keys moved (have_points (range_with_len 0 (length counts))))

  place_here : (i : ℕ) → i < length keys → (d : Reverse ℕ × ℕ) → get_or (places_of keys) i 0 ≡ (get_or keys i d).1
  place_here i within d = get_or-map (λ (k : Reverse ℕ × ℕ). k.1) keys i d 0 within

  before_next : (i : ℕ) → i + 1 < length (places_of keys) → IsBefore counts (get_or (places_of keys) i 0) (get_or (places_of keys) (i + 1) 0)
  before_next i within =
      let d : Reverse ℕ × ℕ = (record { 0 = 0 }, 0) in
      let next : i + 1 < length keys = subst (λ n. i + 1 < n) (length-map keys (λ (k : Reverse ℕ × ℕ). k.1)) within in
      let here : i < length keys = omega (arith, next) in
      let a = get_or keys i d in
      let b = get_or keys (i + 1) d in
      let by = not_after a.0.0 b.0.0 b.1 a.1 (sorted i d (omega arith) next) (cases_order a.0.0 b.0.0) in
      let so : IsBefore counts a.1 b.1 = subst (λ n. (n < points_at counts a.1) ⊎ ((points_at counts a.1 ≡ n) × (a.1 ≤ b.1))) (points_here (i + 1) next d)
      (subst (λ n. (b.0.0 < n) ⊎ ((n ≡ b.0.0) × (a.1 ≤ b.1))) (points_here i here d) by) in
      subst (λ p. IsBefore counts p (get_or (places_of keys) (i + 1) 0)) (sym (place_here i here d))
      (subst (λ p. IsBefore counts a.1 p) (sym (place_here (i + 1) next d)) so)

  pub is_ranking : IsRanking counts (places_of keys)
  is_ranking = record { each = each; ordered = before_next }

-- the places that were made of the sorted keys
pub ranked : {A E : Type 0} (counts : List Tally) (keys slice : List (Reverse ℕ × ℕ)) (r : Result (Vec ℕ A) E) → IsPermutation (keys_of counts) keys
    → IsSorted (λ (x y : Reverse ℕ × ℕ). ordering_then (nat_cmp y.0.0 x.0.0) (nat_cmp x.1 y.1)) keys → slice ≡ keys
    → IfOk r (λ places. places.items ≡ places_of slice) → IfOk r (λ places. IsRanking counts places.items)
ranked counts keys slice (Ok places) moved sorted same made = subst (IsRanking counts) (sym (made ∙ ap places_of same)) (is_ranking counts keys moved sorted)
ranked counts keys slice (Err error) moved sorted same made = tt
