-- The scores of members, and the rows of their table.
use Rattle.std.proofs.Common.{◌≡◌, ℕ, ◌+◌, ◌<◌, ◌≤◌, ◌⊎◌, inl, inr, Bool, true, false, List, [], ◌∷◌, ◌++◌, length, map, refl, sym, ap, ap₂, subst, ◌∙◌, arith, suc, zero, None, Some}
use Rattle.{std.specs.Prelude.{◌==◌, if◌then◌else◌}, std.proofs.{lemmas.Bool.{eqb-true, cond-true, cond-false, cases_Bool}, lemmas.List.{length-map, map-append}}}
use Rattle.koth_hill.specs.{declared.score.Score.Score, Hill.{Member, Results, RiseFrom, points}, Scores.{score_of, scores_of, rank_among, last_among, of_rank}}
use Rattle.koth_hill.specs.{Table.{RowParts, row_with, rows_of_rank, rows_by_rank, table_by}, Laws.{In, AreAfter, AreSorted}}
use Rattle.koth_hill.proofs.{Order.{Rising, InScores, above-cases, above-lower}, Counted.{of_rank-In, of_rank-one, one-of_rank, by_rank, by_rank-all}}

-- ---- members and their scores

pub score-rising : (f : Results) (all : List Member) (before : ℕ) (ms : List Member) → RiseFrom before ms → Rising before (map (score_of f all) ms)
score-rising f all before [] rising = tt
score-rising f all before (m ∷ ms) rising = (rising.0, score-rising f all m.entry ms rising.1)

pub scores-rising : (f : Results) (ms : List Member) → RiseFrom 0 ms → Rising 0 (scores_of f ms)
scores-rising f ms rising = score-rising f ms 0 ms rising

pub scores-length : (f : Results) (ms : List Member) → length (scores_of f ms) ≡ length ms
scores-length f ms = length-map ms (score_of f ms)

pub In-score : (f : Results) (all ms : List Member) (m : Member) → In m ms → InScores (score_of f all m) (map (score_of f all) ms)
In-score f all [] m here = absurd here
In-score f all (x ∷ ms) m (inl same) = inl (ap (score_of f all) same)
In-score f all (x ∷ ms) m (inr later) = inr (In-score f all ms m later)

pub In-scores : (f : Results) (ms : List Member) (m : Member) → In m ms → InScores (score_of f ms m) (scores_of f ms)
In-scores f ms m here = In-score f ms ms m here

-- the score is that of one of these members
pub record IsScored (f : Results) (all ms : List Member) (x : Score) : Type 0 where
  pub member : Member
  pub here : In member ms
  pub is : x ≡ score_of f all member

pub score-member : (f : Results) (all ms : List Member) (x : Score) → InScores x (map (score_of f all) ms) → IsScored f all ms x
score-member f all [] x here = absurd here
score-member f all (m ∷ ms) x (inl same) = record { member = m; here = inl refl; is = same }
score-member f all (m ∷ ms) x (inr later) =
    let found : IsScored f all ms x = score-member f all ms x later in record { member = found.member; here = inr found.here; is = found.is }

pub scores-member : (f : Results) (ms : List Member) (x : Score) → InScores x (scores_of f ms) → IsScored f ms ms x
scores-member f ms x here = score-member f ms ms x here

-- ---- the last

-- a score of the last rank, with this entry
pub record IsLastScore (all xs : List Score) (entry : ℕ) : Type 0 where
  pub score : Score
  pub here : InScores score xs
  pub last : rank_among all score ≡ length all
  pub is : score.entry ≡ entry

some-same : (a b : ℕ) → Some a ≡ Some b → a ≡ b
some-same a b e = cc

pub last_among-score : (all xs : List Score) (entry : ℕ) → last_among all xs ≡ Some entry → IsLastScore all xs entry
last_among-score all [] entry found = cc
last_among-score all (x ∷ xs) entry found = elim (cases_Bool (rank_among all x == length all)) [
  | inl holds ↦ record {
    score = x;
    here = inl refl;
    last = eqb-true (rank_among all x) (length all) holds;
    is = some-same x.entry entry (sym (cond-true (rank_among all x == length all) (Some x.entry) (last_among all xs) holds) ∙ found);
  }
  | inr fails ↦
      let later : IsLastScore all xs entry = last_among-score all xs entry (sym (cond-false (rank_among all x == length all) (Some x.entry) (last_among all xs) fails) ∙ found) in
      record { score = later.score; here = inr later.here; last = later.last; is = later.is }
]

last_among-empty : (all xs : List Score) → last_among all xs ≡ None → of_rank all (length all) xs ≡ []
last_among-empty all [] none = refl
last_among-empty all (x ∷ xs) none = elim (cases_Bool (rank_among all x == length all)) [
  | inl holds ↦
      let wrong : Some x.entry ≡ None = sym (cond-true (rank_among all x == length all) (Some x.entry) (last_among all xs) holds) ∙ none in cc
  | inr fails ↦
      cond-false (rank_among all x == length all) (x ∷ of_rank all (length all) xs) (of_rank all (length all) xs) fails
      ∙ last_among-empty all xs (sym (cond-false (rank_among all x == length all) (Some x.entry) (last_among all xs) fails) ∙ none)
]

-- if there are scores, one is the last
pub last_among-none : (xs : List Score) → Rising 0 xs → 1 ≤ length xs → last_among xs xs ≡ None → ⊥
last_among-none xs rising some none =
    let one : length (of_rank xs (length xs) xs) ≡ 1 = one-of_rank xs (length xs) rising some (omega arith) in
    let empty : length (of_rank xs (length xs) xs) ≡ 0 = ap length (last_among-empty xs xs none) in
    omega (arith, one, empty)

-- ---- scores by rank

abbrev IsBeforeScore : Score → Score → Type 0
IsBeforeScore x y = (y.points < x.points) ⊎ ((x.points ≡ y.points) × (x.entry < y.entry))

abbrev AreAfterScore : Score → List Score → Type 0
AreAfterScore x [] = Unit {0}
AreAfterScore x (y ∷ ys) = IsBeforeScore x y × AreAfterScore x ys

abbrev AreSortedScores : List Score → Type 0
AreSortedScores [] = Unit {0}
AreSortedScores (x ∷ xs) = AreAfterScore x xs × AreSortedScores xs

In-append : (xs ys : List Score) (x : Score) → InScores x (xs ++ ys) → InScores x xs ⊎ InScores x ys
In-append [] ys x here = inr here
In-append (y ∷ xs) ys x (inl same) = inl (inl same)
In-append (y ∷ xs) ys x (inr later) = elim (In-append xs ys x later) [ inl here ↦ inl (inr here) | inr there ↦ inr there ]

-- one of the ranks from r on
record IsFrom (all : List Score) (r : ℕ) (x : Score) : Type 0 where
  here : InScores x all
  least : r ≤ rank_among all x

by_rank-In : (all : List Score) (r n : ℕ) (x : Score) → InScores x (by_rank all r n) → IsFrom all r x
by_rank-In all r zero x here = absurd here
by_rank-In all r (suc n) x here = elim (In-append (of_rank all r all) (by_rank all (r + 1) n) x here) [
  | inl first ↦ let found : InScores x all × (rank_among all x ≡ r) = of_rank-In all all r x first in record { here = found.0; least = omega (arith, found.1) }
  | inr later ↦ let found : IsFrom all (r + 1) x = by_rank-In all (r + 1) n x later in record { here = found.here; least = omega (arith, found.least) }
]

are-after : (x : Score) (later : List Score) → ((y : Score) → InScores y later → IsBeforeScore x y) → AreAfterScore x later
are-after x [] each = tt
are-after x (y ∷ later) each = (each y (inl refl), are-after x later (λ z here. each z (inr here)))

block-sorted : (block later : List Score) → length block ≤ 1 → ((x y : Score) → InScores x block → InScores y later → IsBeforeScore x y) →
    AreSortedScores later → AreSortedScores (block ++ later)
block-sorted [] later few each sorted = sorted
block-sorted (x ∷ []) later few each sorted = (are-after x later (λ y here. each x y (inl refl) here), sorted)
block-sorted (x ∷ z ∷ block) later few each sorted = absurd (omega (arith, few))

before-score : (all : List Score) (x y : Score) → Rising 0 all → InScores x all → InScores y all → rank_among all x < rank_among all y → IsBeforeScore x y
before-score all x y rising here there less = above-cases x.points y.points x.entry y.entry (above-lower all x y rising here there less)

by_rank-sorted : (all : List Score) (r n : ℕ) → Rising 0 all → AreSortedScores (by_rank all r n)
by_rank-sorted all r zero rising = tt
by_rank-sorted all r (suc n) rising =
    block-sorted (of_rank all r all) (by_rank all (r + 1) n) (of_rank-one all r rising)
    (λ x y first later.
    let one : InScores x all × (rank_among all x ≡ r) = of_rank-In all all r x first in
    let other : IsFrom all (r + 1) y = by_rank-In all (r + 1) n y later in
    before-score all x y rising one.0 other.here (omega (arith, one.1, other.least)))
    (by_rank-sorted all (r + 1) n rising)

-- ---- rows

-- the score that a row shows
abbrev pub score_in : RowParts → Score
score_in row = record { entry = row.entry; points = row.score }

map-either : (b : Bool) (row : RowParts) (rows : List RowParts) → map score_in (if b then row ∷ rows else rows) ≡ (if b then score_in row ∷ map score_in rows else map score_in rows)
map-either true row rows = refl
map-either false row rows = refl

-- the rows of a rank show the scores of that rank
pub rows-of_rank : (f : Results) (all ms : List Member) (xs : List Score) (r : ℕ) → map score_in (rows_of_rank xs r ms (map (score_of f all) ms)) ≡ of_rank xs r (map (score_of f all) ms)
rows-of_rank f all [] xs r = refl
rows-of_rank f all (m ∷ ms) xs r =
    map-either (rank_among xs (score_of f all m) == r) (row_with (points f all m) m) (rows_of_rank xs r ms (map (score_of f all) ms))
    ∙ ap (λ (ys : List Score). if rank_among xs (score_of f all m) == r then score_of f all m ∷ ys else ys) (rows-of_rank f all ms xs r)

pub rows-by_rank : (f : Results) (ms : List Member) (r n : ℕ) → map score_in (rows_by_rank (scores_of f ms) ms r n) ≡ by_rank (scores_of f ms) r n
rows-by_rank f ms r zero = refl
rows-by_rank f ms r (suc n) =
    map-append score_in (rows_of_rank (scores_of f ms) r ms (scores_of f ms)) (rows_by_rank (scores_of f ms) ms (r + 1) n)
    ∙ ap₂ (λ (xs ys : List Score). xs ++ ys) (rows-of_rank f ms ms (scores_of f ms) r) (rows-by_rank f ms (r + 1) n)

pub table-length : (f : Results) (ms : List Member) → length (table_by f ms) ≡ length ms
table-length f ms =
    sym (length-map (table_by f ms) score_in)
    ∙ ap length (rows-by_rank f ms 1 (length ms))
    ∙ ap (λ (n : ℕ). length (by_rank (scores_of f ms) 1 n)) (sym (scores-length f ms))
    ∙ by_rank-all (scores_of f ms)
    ∙ scores-length f ms

rows-after : (row : RowParts) (rows : List RowParts) → AreAfterScore (score_in row) (map score_in rows) → AreAfter row rows
rows-after row [] after = tt
rows-after row (next ∷ rows) after = (after.0, rows-after row rows after.1)

rows-sorted : (rows : List RowParts) → AreSortedScores (map score_in rows) → AreSorted rows
rows-sorted [] sorted = tt
rows-sorted (row ∷ rows) sorted = (rows-after row rows sorted.0, rows-sorted rows sorted.1)

pub table-sorted : (f : Results) (ms : List Member) → RiseFrom 0 ms → AreSorted (table_by f ms)
table-sorted f ms rising =
    rows-sorted (table_by f ms)
    (subst AreSortedScores (sym (rows-by_rank f ms 1 (length ms))) (by_rank-sorted (scores_of f ms) 1 (length ms) (scores-rising f ms rising)))
