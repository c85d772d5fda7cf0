-- Of each rank from 1 to the number of scores there is exactly one.
use Rattle.std.proofs.Common.{◌≡◌, ℕ, ◌+◌, ◌<◌, ◌≤◌, inl, inr, Bool, true, false, List, [], ◌∷◌, ◌++◌, length, refl, sym, ap, ap₂, subst, ◌∙◌, arith, suc, zero, length-append}
use Rattle.std.specs.Prelude.{◌==◌, if◌then◌else◌, nat_lt, nat_le, ◌&&◌}
use Rattle.std.proofs.lemmas.Bool.{lt-ltb, le-ltb, le-leb, lt-leb, eqb-true, eq-eqb, ne_eqb, and_from, and_left, and_right, cond-true, cond-false, cases_lt, cases_eq, cases_order, cases_Bool}
use Rattle.{koth_hill.specs.{declared.score.Score.Score, Scores.{rank_among, of_rank}}, koth_hill.proofs.Order.{Rising, InScores, InScores-above, rank-one, rank-most}}

-- ---- those of one rank

-- what is of a rank is a score of that rank
pub of_rank-In : (all xs : List Score) (r : ℕ) (x : Score) → InScores x (of_rank all r xs) → InScores x xs × (rank_among all x ≡ r)
of_rank-In all [] r x here = absurd here
of_rank-In all (y ∷ xs) r x here = elim (cases_Bool (rank_among all y == r)) [
  | inl holds ↦
      let P : List Score → Type 0 = λ zs. InScores x zs in
      elim (subst P (cond-true (rank_among all y == r) (y ∷ of_rank all r xs) (of_rank all r xs) holds) here) [
        | inl same ↦ (inl same, ap (λ (z : Score). rank_among all z) same ∙ eqb-true (rank_among all y) r holds)
        | inr later ↦ let found : InScores x xs × (rank_among all x ≡ r) = of_rank-In all xs r x later in (inr found.0, found.1)
      ]
  | inr fails ↦
      let P : List Score → Type 0 = λ zs. InScores x zs in
      let found : InScores x xs × (rank_among all x ≡ r) = of_rank-In all xs r x (subst P (cond-false (rank_among all y == r) (y ∷ of_rank all r xs) (of_rank all r xs) fails) here) in
      (inr found.0, found.1)
]

-- if none is of a rank, the list of that rank is empty
of_rank-none : (all xs : List Score) (r : ℕ) → ((x : Score) → InScores x xs → rank_among all x ≡ r → ⊥) → of_rank all r xs ≡ []
of_rank-none all [] r none = refl
of_rank-none all (y ∷ xs) r none =
    cond-false (rank_among all y == r) (y ∷ of_rank all r xs) (of_rank all r xs) (ne_eqb (rank_among all y) r (λ same. none y (inl refl) same))
    ∙ of_rank-none all xs r (λ x here same. none x (inr here) same)

of_rank-few : (all xs : List Score) (before r : ℕ) → Rising before xs → ((x : Score) → InScores x xs → InScores x all) → length (of_rank all r xs) ≤ 1
of_rank-few all [] before r rising are = omega arith
of_rank-few all (y ∷ xs) before r rising are = elim (cases_Bool (rank_among all y == r)) [
  | inl holds ↦
      let rest : of_rank all r xs ≡ [] = of_rank-none all xs r (λ x here same.
      let one : y.entry ≡ x.entry = rank-one all y x (are y (inl refl)) (are x (inr here)) (eqb-true (rank_among all y) r holds ∙ sym same) in
      let later : y.entry < x.entry = InScores-above y.entry xs x rising.1 here in
      omega arith) in
      let whole : length (of_rank all r (y ∷ xs)) ≡ 1 = ap length (cond-true (rank_among all y == r) (y ∷ of_rank all r xs) (of_rank all r xs) holds) ∙ ap (λ (zs : List Score). length (y ∷ zs)) rest in
      omega (arith, whole)
  | inr fails ↦
      let whole : length (of_rank all r (y ∷ xs)) ≡ length (of_rank all r xs) = ap length (cond-false (rank_among all y == r) (y ∷ of_rank all r xs) (of_rank all r xs) fails) in
      let few : length (of_rank all r xs) ≤ 1 = of_rank-few all xs y.entry r rising.1 (λ x here. are x (inr here)) in
      omega (arith, whole, few)
]

pub of_rank-one : (all : List Score) (r : ℕ) → Rising 0 all → length (of_rank all r all) ≤ 1
of_rank-one all r rising = of_rank-few all all 0 r rising (λ x here. here)

-- ---- those of a number of ranks

-- those of `n` ranks from one on
abbrev pub by_rank : List Score → ℕ → ℕ → List Score
by_rank all r zero = []
by_rank all r (suc n) = of_rank all r all ++ by_rank all (r + 1) n

-- 1 if a rank is one of n from r on
hit : ℕ → ℕ → ℕ → ℕ
hit r n k = if (nat_le r k && nat_lt k (r + n)) then 1 else 0

hit-in : (r n k : ℕ) → r ≤ k → k < r + n → hit r n k ≡ 1
unfolding hit
hit-in r n k least most = cond-true (nat_le r k && nat_lt k (r + n)) 1 0 (and_from (nat_le r k) (nat_lt k (r + n)) (le-leb r k least) (lt-ltb k (r + n) most))

hit-below : (r n k : ℕ) → k < r → hit r n k ≡ 0
unfolding hit
hit-below r n k less = cond-false (nat_le r k && nat_lt k (r + n)) 1 0 (and_left (nat_le r k) (nat_lt k (r + n)) (lt-leb r k less))

hit-past : (r n k : ℕ) → r + n ≤ k → hit r n k ≡ 0
unfolding hit
hit-past r n k more = cond-false (nat_le r k && nat_lt k (r + n)) 1 0 (and_right (nat_le r k) (nat_lt k (r + n)) (le-ltb k (r + n) more))

one_if : Bool → ℕ
one_if true = 1
one_if false = 0

hit-split : (r n k : ℕ) → hit r (suc n) k ≡ one_if (k == r) + hit (r + 1) n k
unfolding one_if
hit-split r n k = elim (cases_order k r) [
  | inl same ↦
      let first : one_if (k == r) ≡ 1 = ap one_if (eq-eqb k r same) in
      omega (arith, first, hit-in r (suc n) k (omega arith) (omega arith), hit-below (r + 1) n k (omega arith))
  | inr other ↦ elim other [
    | inl less ↦
        let first : one_if (k == r) ≡ 0 = ap one_if (ne_eqb k r (λ e. omega arith)) in
        omega (arith, first, hit-below r (suc n) k less, hit-below (r + 1) n k (omega arith))
    | inr more ↦
        let first : one_if (k == r) ≡ 0 = ap one_if (ne_eqb k r (λ e. omega arith)) in
        elim (cases_lt k (r + suc n)) [
          | inl within ↦ omega (arith, first, hit-in r (suc n) k (omega arith) within, hit-in (r + 1) n k (omega arith) (omega arith))
          | inr past ↦ omega (arith, first, hit-past r (suc n) k past, hit-past (r + 1) n k (omega arith))
        ]
  ]
]

-- how many of these are of one of n ranks from r on
hits : List Score → ℕ → ℕ → List Score → ℕ
hits all r n [] = 0
hits all r n (x ∷ xs) = hit r n (rank_among all x) + hits all r n xs

hits-none : (all : List Score) (r : ℕ) (xs : List Score) → hits all r 0 xs ≡ 0
unfolding hits
hits-none all r [] = refl
hits-none all r (x ∷ xs) = elim (cases_lt (rank_among all x) r) [
  | inl less ↦ ap₂ (λ (a b : ℕ). a + b) (hit-below r 0 (rank_among all x) less) (hits-none all r xs)
  | inr more ↦ ap₂ (λ (a b : ℕ). a + b) (hit-past r 0 (rank_among all x) (omega (arith, more))) (hits-none all r xs)
]

of_rank-length : (b : Bool) (x : Score) (xs : List Score) → length (if b then x ∷ xs else xs) ≡ one_if b + length xs
unfolding one_if
of_rank-length true x xs = omega arith
of_rank-length false x xs = omega arith

four : (a b c d x y : ℕ) → x ≡ a + b → y ≡ c + d → x + y ≡ (a + c) + (b + d)
four a b c d x y ex ey = omega (arith, ex, ey)

hits-split : (all : List Score) (r n : ℕ) (xs : List Score) → hits all r (suc n) xs ≡ length (of_rank all r xs) + hits all (r + 1) n xs
unfolding hits
hits-split all r n [] = refl
hits-split all r n (x ∷ xs) =
    four (one_if (rank_among all x == r)) (hit (r + 1) n (rank_among all x)) (length (of_rank all r xs)) (hits all (r + 1) n xs)
    (hit r (suc n) (rank_among all x)) (hits all r (suc n) xs) (hit-split r n (rank_among all x)) (hits-split all r n xs)
    ∙ ap (λ (k : ℕ). k + (hit (r + 1) n (rank_among all x) + hits all (r + 1) n xs)) (sym (of_rank-length (rank_among all x == r) x (of_rank all r xs)))

by_rank-length : (all : List Score) (r n : ℕ) → length (by_rank all r n) ≡ hits all r n all
by_rank-length all r zero = sym (hits-none all r all)
by_rank-length all r (suc n) =
    length-append (of_rank all r all) (by_rank all (r + 1) n)
    ∙ ap (λ (k : ℕ). length (of_rank all r all) + k) (by_rank-length all (r + 1) n)
    ∙ sym (hits-split all r n all)

sum-suc : (n : ℕ) → 1 + n ≡ suc n
sum-suc n = omega arith

hits-all : (all xs : List Score) → ((x : Score) → InScores x xs → rank_among all x ≤ length all) → hits all 1 (length all) xs ≡ length xs
unfolding hits
hits-all all [] most = refl
hits-all all (x ∷ xs) most =
    let one : hit 1 (length all) (rank_among all x) ≡ 1 = hit-in 1 (length all) (rank_among all x) (omega arith) (omega (arith, most x (inl refl))) in
    let rest : hits all 1 (length all) xs ≡ length xs = hits-all all xs (λ y here. most y (inr here)) in
    ap₂ (λ (a b : ℕ). a + b) one rest ∙ sum-suc (length xs)

-- as many are of the ranks from 1 on as there are scores
pub by_rank-all : (all : List Score) → length (by_rank all 1 (length all)) ≡ length all
by_rank-all all = by_rank-length all 1 (length all) ∙ hits-all all all (λ x here. rank-most all x here)

by_rank-few : (all : List Score) (r n : ℕ) → Rising 0 all → length (by_rank all r n) ≤ n
by_rank-few all r zero rising = omega arith
by_rank-few all r (suc n) rising =
    let first : length (of_rank all r all) ≤ 1 = of_rank-one all r rising in
    let rest : length (by_rank all (r + 1) n) ≤ n = by_rank-few all (r + 1) n rising in
    let whole : length (by_rank all r (suc n)) ≡ length (of_rank all r all) + length (by_rank all (r + 1) n) = length-append (of_rank all r all) (by_rank all (r + 1) n) in
    omega (arith, first, rest, whole)

by_rank-full : (all : List Score) (from n r : ℕ) → Rising 0 all → length (by_rank all from n) ≡ n → from ≤ r → r < from + n → length (of_rank all r all) ≡ 1
by_rank-full all from zero r rising full least most = absurd (omega (arith, least, most))
by_rank-full all from (suc n) r rising full least most =
    let first : length (of_rank all from all) ≤ 1 = of_rank-one all from rising in
    let rest : length (by_rank all (from + 1) n) ≤ n = by_rank-few all (from + 1) n rising in
    let whole : length (by_rank all from (suc n)) ≡ length (of_rank all from all) + length (by_rank all (from + 1) n) = length-append (of_rank all from all) (by_rank all (from + 1) n) in
    let one : length (of_rank all from all) ≡ 1 = omega (arith, first, rest, whole, full) in
    let others : length (by_rank all (from + 1) n) ≡ n = omega (arith, first, rest, whole, full) in
    elim (cases_eq from r) [
      | inl same ↦ ap (λ (k : ℕ). length (of_rank all k all)) (sym same) ∙ one
      | inr other ↦ by_rank-full all (from + 1) n r rising others (omega (arith, least, other)) (omega (arith, most))
    ]

-- of each rank from 1 on there is one
pub one-of_rank : (xs : List Score) (r : ℕ) → Rising 0 xs → 1 ≤ r → r ≤ length xs → length (of_rank xs r xs) ≡ 1
one-of_rank xs r rising least most = by_rank-full xs 1 (length xs) r rising (by_rank-all xs) least (omega (arith, most))
