-- The order of scores by points and then by entry, and their ranks.
use Rattle.std.proofs.Common.{◌≡◌, ℕ, ◌+◌, ◌<◌, ◌≤◌, ◌⊎◌, inl, inr, Bool, true, false, List, [], ◌∷◌, length, refl, sym, ap, ◌∙◌, arith, suc}
use Rattle.std.specs.Prelude.{◌==◌, if◌then◌else◌, nat_lt, ◌||◌, ◌&&◌, count_by}
use Rattle.std.proofs.lemmas.Bool.{ltb-true, ltb-false, lt-ltb, le-ltb, eqb-true, eqb-false, eq-eqb, or_cases, or_left, or_right, or_from, or_parts, and_parts, and_from, and_right, and_cases}
use Rattle.{std.proofs.{lemmas.Bool.{false_from_ne_true, cases_Bool}, lemmas.List.Recursion.is_count_by}, koth_hill.specs.{declared.score.Score.Score, Scores.{outranks, rank_among}}}

-- ---- on numbers: points p at entry a are above points q at entry b

abbrev pub above : ℕ → ℕ → ℕ → ℕ → Bool
above p q a b = nat_lt q p || ((p == q) && nat_lt a b)

above-self : (p a : ℕ) → above p p a a ≡ false
above-self p a = or_from (nat_lt p p) ((p == p) && nat_lt a a) (le-ltb p p (omega arith)) (and_right (p == p) (nat_lt a a) (le-ltb a a (omega arith)))

pub above-cases : (p q a b : ℕ) → above p q a b ≡ true → (q < p) ⊎ ((p ≡ q) × (a < b))
above-cases p q a b e = elim (or_cases (nat_lt q p) ((p == q) && nat_lt a b) e) [
  | inl more ↦ inl (ltb-true q p more)
  | inr same ↦ let parts : ((p == q) ≡ true) × (nat_lt a b ≡ true) = and_parts (p == q) (nat_lt a b) same in inr (eqb-true p q parts.0, ltb-true a b parts.1)
]

above-more : (p q a b : ℕ) → q < p → above p q a b ≡ true
above-more p q a b more = or_left (nat_lt q p) ((p == q) && nat_lt a b) (lt-ltb q p more)

above-equal : (p q a b : ℕ) → p ≡ q → a < b → above p q a b ≡ true
above-equal p q a b same earlier = or_right (nat_lt q p) ((p == q) && nat_lt a b) (and_from (p == q) (nat_lt a b) (eq-eqb p q same) (lt-ltb a b earlier))

above-trans : (p q r a b c : ℕ) → above p q a b ≡ true → above q r b c ≡ true → above p r a c ≡ true
above-trans p q r a b c first second = elim (above-cases p q a b first) [
  | inl more ↦ elim (above-cases q r b c second) [
    | inl less ↦ above-more p r a c (omega (arith, more, less))
    | inr same ↦ above-more p r a c (omega (arith, more, same.0))
  ]
  | inr same ↦ elim (above-cases q r b c second) [
    | inl less ↦ above-more p r a c (omega (arith, same.0, less))
    | inr also ↦ above-equal p r a c (same.0 ∙ also.0) (omega (arith, same.1, also.1))
  ]
]

below-entry : (p q a b : ℕ) → q ≤ p → above p q a b ≡ false → p ≤ q → b ≤ a
below-entry p q a b most fails least = elim (and_cases (p == q) (nat_lt a b) ((or_parts (nat_lt q p) ((p == q) && nat_lt a b) fails).1)) [
  | inl other ↦ absurd (eqb-false p q other (omega arith))
  | inr later ↦ ltb-false a b later
]

above-total : (p q a b : ℕ) → above p q a b ≡ false → above q p b a ≡ false → a ≡ b
above-total p q a b fails lacks =
    let most : p ≤ q = ltb-false q p ((or_parts (nat_lt q p) ((p == q) && nat_lt a b) fails).0) in
    let least : q ≤ p = ltb-false p q ((or_parts (nat_lt p q) ((q == p) && nat_lt b a) lacks).0) in
    let one : b ≤ a = below-entry p q a b least fails most in
    let two : a ≤ b = below-entry q p b a most lacks least in
    omega arith

-- ---- scores of a list

-- entries rise from one score to the next, and from an entry before them
abbrev pub Rising : ℕ → List Score → Type 0
Rising before [] = Unit {0}
Rising before (x ∷ xs) = (before < x.entry) × Rising x.entry xs

-- one of these scores
abbrev pub InScores : Score → List Score → Type 0
InScores x [] = ⊥
InScores x (y ∷ ys) = (x ≡ y) ⊎ InScores x ys

pub InScores-above : (before : ℕ) (xs : List Score) (x : Score) → Rising before xs → InScores x xs → before < x.entry
InScores-above before [] x rising here = absurd here
InScores-above before (y ∷ xs) x rising (inl same) = let e : x.entry ≡ y.entry = ap (λ (z : Score). z.entry) same in omega (arith, e, rising.0)
InScores-above before (y ∷ xs) x rising (inr later) = omega (arith, rising.0, InScores-above y.entry xs x rising.1 later)

-- two of one entry are one
pub InScores-distinct : (before : ℕ) (xs : List Score) (x y : Score) → Rising before xs → InScores x xs → InScores y xs → x.entry ≡ y.entry → x ≡ y
InScores-distinct before [] x y rising here there same = absurd here
InScores-distinct before (z ∷ xs) x y rising (inl a) (inl b) same = a ∙ sym b
InScores-distinct before (z ∷ xs) x y rising (inl a) (inr later) same =
    let first : x.entry ≡ z.entry = ap (λ (v : Score). v.entry) a in
    absurd (omega (arith, first, same, InScores-above z.entry xs y rising.1 later))
InScores-distinct before (z ∷ xs) x y rising (inr later) (inl b) same =
    let first : y.entry ≡ z.entry = ap (λ (v : Score). v.entry) b in
    absurd (omega (arith, first, same, InScores-above z.entry xs x rising.1 later))
InScores-distinct before (z ∷ xs) x y rising (inr here) (inr there) same = InScores-distinct z.entry xs x y rising.1 here there same

-- ---- how many outrank a score

abbrev pub outranking : Score → List Score → ℕ
outranking x [] = 0
outranking x (y ∷ ys) = if outranks y x then 1 + outranking x ys else outranking x ys

pub outranking-count : (x : Score) (ys : List Score) → outranking x ys ≡ count_by (λ y. outranks y x) ys
outranking-count x ys = is_count_by (outranking x) (λ y. outranks y x) refl (λ y zs. refl) ys

pub rank-outranking : (xs : List Score) (x : Score) → rank_among xs x ≡ 1 + outranking x xs
rank-outranking xs x = ap (λ (n : ℕ). 1 + n) (sym (outranking-count x xs))

step_le : (b d : Bool) (p q : ℕ) → (b ≡ true → d ≡ true) → p ≤ q → (if b then 1 + p else p) ≤ (if d then 1 + q else q)
step_le true true p q so le = omega arith
step_le true false p q so le = let wrong : false ≡ true = so refl in cc
step_le false true p q so le = omega arith
step_le false false p q so le = le

step_lt : (b d : Bool) (p q : ℕ) → (b ≡ true → d ≡ true) → p < q → (if b then 1 + p else p) < (if d then 1 + q else q)
step_lt true true p q so lt = omega arith
step_lt true false p q so lt = let wrong : false ≡ true = so refl in cc
step_lt false true p q so lt = omega arith
step_lt false false p q so lt = lt

step_here : (b d : Bool) (p q : ℕ) → b ≡ false → d ≡ true → p ≤ q → (if b then 1 + p else p) < (if d then 1 + q else q)
step_here true d p q fails holds le = cc
step_here false true p q fails holds le = omega arith
step_here false false p q fails holds le = cc

outranks-self : (x y : Score) → x ≡ y → outranks y x ≡ false
outranks-self x y same = ap (λ (z : Score). outranks z x) (sym same) ∙ above-self x.points x.entry

pub outranks-trans : (x y z : Score) → outranks x y ≡ true → outranks y z ≡ true → outranks x z ≡ true
outranks-trans x y z one two = above-trans x.points y.points z.points x.entry y.entry z.entry one two

-- neither outranks the other
outranks-neither : (x y : Score) → outranks x y ≡ false → outranks y x ≡ false → x.entry ≡ y.entry
outranks-neither x y fails lacks = above-total x.points y.points x.entry y.entry fails lacks

-- ---- who outranks more is of a lower rank

outranking-mono : (xs : List Score) (x y : Score) → outranks x y ≡ true → outranking x xs ≤ outranking y xs
outranking-mono [] x y over = omega arith
outranking-mono (z ∷ xs) x y over =
    step_le (outranks z x) (outranks z y) (outranking x xs) (outranking y xs) (λ h. outranks-trans z x y h over) (outranking-mono xs x y over)

outranking-less : (xs : List Score) (x y : Score) → InScores x xs → outranks x y ≡ true → outranking x xs < outranking y xs
outranking-less [] x y here over = absurd here
outranking-less (z ∷ xs) x y (inl same) over =
    step_here (outranks z x) (outranks z y) (outranking x xs) (outranking y xs) (outranks-self x z same)
    (ap (λ (v : Score). outranks v y) (sym same) ∙ over) (outranking-mono xs x y over)
outranking-less (z ∷ xs) x y (inr later) over =
    step_lt (outranks z x) (outranks z y) (outranking x xs) (outranking y xs) (λ h. outranks-trans z x y h over) (outranking-less xs x y later over)

pub rank-less : (xs : List Score) (x y : Score) → InScores x xs → outranks x y ≡ true → rank_among xs x < rank_among xs y
rank-less xs x y here over = omega (arith, rank-outranking xs x, rank-outranking xs y, outranking-less xs x y here over)

step_most : (b : Bool) (p n : ℕ) → p ≤ n → (if b then 1 + p else p) ≤ suc n
step_most true p n le = omega arith
step_most false p n le = omega arith

outranking-most : (xs : List Score) (x : Score) → outranking x xs ≤ length xs
outranking-most [] x = omega arith
outranking-most (z ∷ xs) x = step_most (outranks z x) (outranking x xs) (length xs) (outranking-most xs x)

step_not : (b : Bool) (p n : ℕ) → b ≡ false → p ≤ n → (if b then 1 + p else p) < suc n
step_not true p n fails le = cc
step_not false p n fails le = omega arith

step_below : (b : Bool) (p n : ℕ) → p < n → (if b then 1 + p else p) < suc n
step_below true p n lt = omega arith
step_below false p n lt = omega arith

outranking-below : (xs : List Score) (x : Score) → InScores x xs → outranking x xs < length xs
outranking-below [] x here = absurd here
outranking-below (z ∷ xs) x (inl same) = step_not (outranks z x) (outranking x xs) (length xs) (outranks-self x z same) (outranking-most xs x)
outranking-below (z ∷ xs) x (inr later) = step_below (outranks z x) (outranking x xs) (length xs) (outranking-below xs x later)

pub rank-most : (xs : List Score) (x : Score) → InScores x xs → rank_among xs x ≤ length xs
rank-most xs x here = omega (arith, rank-outranking xs x, outranking-below xs x here)

-- of one rank is one entry
pub rank-one : (xs : List Score) (x y : Score) → InScores x xs → InScores y xs → rank_among xs x ≡ rank_among xs y → x.entry ≡ y.entry
rank-one xs x y here there same =
    outranks-neither x y
    (false_from_ne_true (outranks x y) (λ over. let less : rank_among xs x < rank_among xs y = rank-less xs x y here over in omega (arith, less, same)))
    (false_from_ne_true (outranks y x) (λ over. let less : rank_among xs y < rank_among xs x = rank-less xs y x there over in omega (arith, less, same)))

-- who has a lower rank is above
pub above-lower : (xs : List Score) (x y : Score) → Rising 0 xs → InScores x xs → InScores y xs → rank_among xs x < rank_among xs y → outranks x y ≡ true
above-lower xs x y rising here there less = elim (cases_Bool (outranks x y)) [
  | inl holds ↦ holds
  | inr fails ↦ elim (cases_Bool (outranks y x)) [
    | inl over ↦ let wrong : rank_among xs y < rank_among xs x = rank-less xs y x there over in absurd (omega (arith, wrong, less))
    | inr lacks ↦
        let one : x ≡ y = InScores-distinct 0 xs x y rising here there (outranks-neither x y fails lacks) in
        let same : rank_among xs x ≡ rank_among xs y = ap (λ (z : Score). rank_among xs z) one in
        absurd (omega (arith, same, less))
  ]
]
