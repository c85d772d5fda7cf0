-- The laws of hills.
use Rattle.{std.proofs.Common.{◌≡◌, ℕ, ◌+◌, ◌<◌, ◌≤◌, ◌⊎◌, inl, inr, true, false, Bool, List, [], ◌∷◌, ◌++◌, length, map, zero, suc, refl, sym, ap, subst, ◌∙◌, arith, Option, None, Some}, std.specs.Prelude.{◌==◌, if◌then◌else◌}}
use Rattle.{std.proofs.lemmas.Bool.{cond-true, cond-false, cases_lt, cases_Bool, eq-eqb, ne_eqb}, war_types.specs.Warrior.WarriorParts, koth_hill.specs.declared.score.Score.Score}
use Rattle.koth_hill.specs.{declared.verdict.Verdict.Verdict, Hill.{Member, Hill, Results, with_age, fights, RiseFrom, IsHill, points}, Scores.{score_of, scores_of, rank_among}}
use Rattle.koth_hill.specs.{Table.{RowParts, row_with, rows_of_rank, rows_by_rank, table}, Step.{challenger, enlarged, falling_by, falling, is_entry, without, one_older, stays, after_stay, step, verdict, matches_with}}
use Rattle.{koth_hill.specs.Laws.{In, InRows, IsRanking, IsLeast, WasAged, LeastFalls, OthersStay}, koth_hill.proofs.{Members.older, Verdicts.{step-stays, step-falls, judged-falls}}}
use Rattle.koth_hill.proofs.{Order.{InScores, above-cases, above-lower, rank-most, rank-one}, Counted.one-of_rank, Scored.{scores-rising, scores-length, In-scores, table-length, table-sorted}}
use Rattle.koth_hill.proofs.{Agrees.In-left, Admitted.{In-push, without-In, IsLast, last_among-some, enlarged-rising, falling-one, falling-room, falling-last}}

-- ---- tables

no-room : (r k : ℕ) → r ≤ k → k < r + 0 → ⊥
no-room r k least below = omega (arith, least, below)

InRows-left : (xs ys : List RowParts) (row : RowParts) → InRows row xs → InRows row (xs ++ ys)
InRows-left [] ys row here = absurd here
InRows-left (x ∷ xs) ys row (inl same) = inl same
InRows-left (x ∷ xs) ys row (inr later) = inr (InRows-left xs ys row later)

InRows-right : (xs ys : List RowParts) (row : RowParts) → InRows row ys → InRows row (xs ++ ys)
InRows-right [] ys row here = here
InRows-right (x ∷ xs) ys row here = inr (InRows-right xs ys row here)

module _ (f : Results) (whole : List Member) (m : Member) where
  abbrev all : List Score
  all = scores_of f whole

  abbrev row : RowParts
  row = row_with (points f whole m) m

  -- a member's row is among those of its rank
  in-rank : (ms : List Member) (r : ℕ) → In m ms → rank_among all (score_of f whole m) ≡ r → InRows row (rows_of_rank all r ms (map (score_of f whole) ms))
  in-rank [] r here is = absurd here
  in-rank (x ∷ ms) r here is =
      let later : List RowParts = rows_of_rank all r ms (map (score_of f whole) ms) in
      let first : List RowParts = row_with (points f whole x) x ∷ later in
      let b : Bool = rank_among all (score_of f whole x) == r in
      elim here [
        | inl same ↦
            let P : Member → Type 0 = λ y. InRows row (if rank_among all (score_of f whole y) == r then row_with (points f whole y) y ∷ later else later) in
            subst P same (subst (InRows row) (sym (cond-true (rank_among all (score_of f whole m) == r) (row ∷ later) later (eq-eqb _ r is))) (inl refl))
        | inr more ↦
            let kept : InRows row later = in-rank ms r more is in
            elim (cases_Bool b) [
              | inl so ↦ subst (InRows row) (sym (cond-true b first later so)) (inr kept)
              | inr other ↦ subst (InRows row) (sym (cond-false b first later other)) kept
            ]
      ]

  -- and so among those of all ranks from one on that reach it
  in-ranks : (n r : ℕ) → In m whole → r ≤ rank_among all (score_of f whole m) → rank_among all (score_of f whole m) < r + n → InRows row (rows_by_rank all whole r n)
  in-ranks zero r here least below = absurd (no-room r (rank_among all (score_of f whole m)) least below)
  in-ranks (suc n) r here least below = elim (cases_lt r (rank_among all (score_of f whole m))) [
    | inl less ↦ InRows-right (rows_of_rank all r whole all) (rows_by_rank all whole (r + 1) n) row (in-ranks n (r + 1) here (omega (arith, less)) (omega (arith, below)))
    | inr most ↦ InRows-left (rows_of_rank all r whole all) (rows_by_rank all whole (r + 1) n) row (in-rank whole r here (omega (arith, least, most)))
  ]

table-ranking : (h : Hill) → IsHill h → IsRanking h (table h)
unfolding table
table-ranking h is = record {
  each = table-length (fights h.settings) h.members;
  members = λ m here.
      let score : Score = score_of (fights h.settings) h.members m in
      let most : rank_among (scores_of (fights h.settings) h.members) score ≤ length (scores_of (fights h.settings) h.members) =
      rank-most (scores_of (fights h.settings) h.members) score (In-scores (fights h.settings) h.members m here) in
      in-ranks (fights h.settings) h.members m (length h.members) 1 here (omega arith) (omega (arith, most, scores-length (fights h.settings) h.members));
  sorted = table-sorted (fights h.settings) h.members is.rising;
  ranks = λ r least most. one-of_rank (scores_of (fights h.settings) h.members) r (scores-rising (fights h.settings) h.members is.rising) least
      (omega (arith, most, scores-length (fights h.settings) h.members));
}

pub ranking : (seen h : Hill) (rows : List RowParts) → seen ≡ h → IsHill seen → rows ≡ table h → IsRanking h rows
ranking seen h rows view hill same =
    let Q : Hill → Type 0 = λ x. IsHill x in
    let P : List RowParts → Type 0 = IsRanking h in
    subst P (sym same) (table-ranking h (subst Q view hill))

-- ---- the one that falls

pub falling-full : (f : Results) (h : Hill) (w : WarriorParts) → IsHill h → h.settings.capacity ≤ length h.members → falling_by f h w ≡ None → ⊥
falling-full f h w is full none = falling-one f h w is (sym (falling-last f h w full) ∙ none)

-- one of another entry than the last has more points, or as many and an earlier entry
over-last : (f : Results) (all : List Member) (entry : ℕ) (last : IsLast f all all entry) (x : Member) → RiseFrom 0 all → In x all → (x.entry ≡ entry → ⊥) →
    (points f all last.member < points f all x) ⊎ ((points f all x ≡ points f all last.member) × (x.entry < last.member.entry))
over-last f all entry last x rising here other =
    above-cases (points f all x) (points f all last.member) x.entry last.member.entry
    (above-lower (scores_of f all) own least (scores-rising f all rising) own-here least-here less)
  where
    own : Score
    own = score_of f all x

    least : Score
    least = score_of f all last.member

    own-here : InScores own (scores_of f all)
    own-here = In-scores f all x here

    least-here : InScores least (scores_of f all)
    least-here = In-scores f all last.member last.here

    apart : rank_among (scores_of f all) own ≡ length all → ⊥
    apart same = other (rank-one (scores_of f all) own least own-here least-here (same ∙ sym last.last) ∙ last.is)

    most : rank_among (scores_of f all) own ≤ length all
    most = omega (arith, rank-most (scores_of f all) own own-here, scores-length f all)

    less : rank_among (scores_of f all) own < rank_among (scores_of f all) least
    less = omega (arith, most, apart, last.last)

least-of : (h : Hill) (w : WarriorParts) (entry : ℕ) → IsHill h → IsLast (fights h.settings) (enlarged h w) (enlarged h w) entry → IsLeast h w entry
least-of h w entry is last = record {
  member = last.member;
  here = last.here;
  is = last.is;
  others = λ x here other. over-last (fights h.settings) (enlarged h w) entry last x (enlarged-rising h w is) here other;
}

falling-least : (h : Hill) (w : WarriorParts) (entry : ℕ) → IsHill h → falling h w ≡ Some entry → IsLeast h w entry
falling-least h w entry is falls = elim (cases_lt (length h.members) h.settings.capacity) [
  | inl room ↦ let wrong : None ≡ Some entry = sym (falling-room (fights h.settings) h w room) ∙ falls in cc
  | inr full ↦
      least-of h w entry is (last_among-some (fights h.settings) (enlarged h w) (enlarged h w) entry
      (sym (falling-last (fights h.settings) h w full) ∙ falls))
]

pub least-falls : (seen h : Hill) (w : WarriorParts) (judged : Verdict) → seen ≡ h → IsHill seen → judged ≡ verdict h w → LeastFalls h w judged.falls
least-falls seen h w judged view hill same =
    let Q : Hill → Type 0 = λ x. IsHill x in
    let is : IsHill h = subst Q view hill in
    let P : Option ℕ → Type 0 = LeastFalls h w in
    let given : LeastFalls h w (falling h w) = record {
      room = falling-room (fights h.settings) h w;
      full = falling-full (fights h.settings) h w is;
      least = λ entry. falling-least h w entry is;
    } in subst P (sym (judged-falls (fights h.settings) (matches_with h.settings h.members w) h w judged same)) given

-- ---- those that stay

plus-none : (n : ℕ) → n ≡ n + 0
plus-none n = omega arith

-- one of those that are one older
record WasOlder (ms : List Member) (m : Member) : Type 0 where
  before : Member
  here : In before ms
  is : m ≡ older before

one_older-In : (ms : List Member) (m : Member) → In m (one_older ms) → WasOlder ms m
one_older-In [] m here = absurd here
one_older-In (x ∷ ms) m (inl same) = record { before = x; here = inl refl; is = same }
one_older-In (x ∷ ms) m (inr later) =
    let was : WasOlder ms m = one_older-In ms m later in record { before = was.before; here = inr was.here; is = was.is }

aged-stay : (h : Hill) (w : WarriorParts) (m : Member) → stays h w ≡ true → In m (after_stay h w (falling h w)).members → (m ≡ challenger h w) ⊎ WasAged h w m
aged-stay h w m stay here = elim (In-push (one_older (without (falling h w) h.members)) (challenger h w) m here) [
  | inl old ↦
      let was : WasOlder (without (falling h w) h.members) m = one_older-In (without (falling h w) h.members) m old in
      inr (record {
        before = was.before;
        here = without-In (falling h w) h.members was.before was.here;
        entry = ap (λ (y : Member). y.entry) was.is;
        warrior = ap (λ (y : Member). y.warrior) was.is;
        age = ap (λ (y : Member). y.age) was.is ∙ ap (λ (n : ℕ). was.before.age + n) (sym (cond-true (stays h w) 1 0 stay));
      })
  | inr own ↦ inl own
]

aged-fall : (h : Hill) (w : WarriorParts) (m : Member) → stays h w ≡ false → In m h.members → WasAged h w m
aged-fall h w m falls here = record {
  before = m;
  here = here;
  entry = refl;
  warrior = refl;
  age = plus-none m.age ∙ ap (λ (n : ℕ). m.age + n) (sym (cond-false (stays h w) 1 0 falls));
}

step-ages : (h : Hill) (w : WarriorParts) (m : Member) → In m (step h w).members → (m ≡ challenger h w) ⊎ WasAged h w m
step-ages h w m here =
    let P : Hill → Type 0 = λ x. In m x.members in
    elim (cases_Bool (stays h w)) [
      | inl stay ↦ aged-stay h w m stay (subst P (step-stays (fights h.settings) h w stay) here)
      | inr falls ↦ inr (aged-fall h w m falls (subst P (step-falls (fights h.settings) h w falls) here))
    ]

In-one_older : (ms : List Member) (m : Member) → In m ms → In (older m) (one_older ms)
In-one_older [] m here = absurd here
In-one_older (x ∷ ms) m (inl same) = inl (ap older same)
In-one_older (x ∷ ms) m (inr later) = inr (In-one_older ms m later)

entry-apart : (entry : ℕ) (fallen : Option ℕ) → (fallen ≡ Some entry → ⊥) → is_entry entry fallen ≡ false
entry-apart entry None apart = refl
entry-apart entry (Some n) apart = ne_eqb entry n (λ same. apart (ap (λ (k : ℕ). Some k) (sym same)))

In-without : (fallen : Option ℕ) (ms : List Member) (m : Member) → In m ms → is_entry m.entry fallen ≡ false → In m (without fallen ms)
In-without fallen [] m here apart = absurd here
In-without fallen (x ∷ ms) m here apart =
    let P : List Member → Type 0 = λ xs. In m xs in
    elim (cases_Bool (is_entry x.entry fallen)) [
      | inl goes ↦
          let kept : In m (without fallen ms) = elim here [
            | inl same ↦
                let wrong : true ≡ false = sym goes ∙ (ap (λ (y : Member). is_entry y.entry fallen) (sym same) ∙ apart) in cc
            | inr later ↦ In-without fallen ms m later apart
          ] in
          subst P (sym (cond-true (is_entry x.entry fallen) (without fallen ms) (x ∷ without fallen ms) goes)) kept
      | inr keeps ↦
          let kept : In m (x ∷ without fallen ms) = elim here [
            | inl same ↦ inl same
            | inr later ↦ inr (In-without fallen ms m later apart)
          ] in
          subst P (sym (cond-false (is_entry x.entry fallen) (without fallen ms) (x ∷ without fallen ms) keeps)) kept
    ]

step-keeps : (h : Hill) (w : WarriorParts) (m : Member) → In m h.members → (falling h w ≡ Some m.entry → ⊥) → In (with_age (m.age + (if stays h w then 1 else 0)) m) (step h w).members
step-keeps h w m here apart =
    let P : Hill → Type 0 = λ x. In (with_age (m.age + (if stays h w then 1 else 0)) m) x.members in
    let Q : ℕ → Type 0 = λ n. In (with_age (m.age + n) m) (after_stay h w (falling h w)).members in
    let R : ℕ → Type 0 = λ n. In (with_age n m) h.members in
    elim (cases_Bool (stays h w)) [
      | inl stay ↦
          subst P (sym (step-stays (fights h.settings) h w stay)) (subst Q (sym (cond-true (stays h w) 1 0 stay))
          (In-left (one_older (without (falling h w) h.members)) (challenger h w ∷ []) (older m)
          (In-one_older (without (falling h w) h.members) m (In-without (falling h w) h.members m here (entry-apart m.entry (falling h w) apart)))))
      | inr falls ↦
          subst P (sym (step-falls (fights h.settings) h w falls)) (subst R (plus-none m.age ∙ ap (λ (n : ℕ). m.age + n) (sym (cond-false (stays h w) 1 0 falls))) here)
    ]

pub others-stay : (h : Hill) (w : WarriorParts) (new : Hill) → new ≡ step h w → OthersStay h w new
others-stay h w new same =
    let P : Hill → Type 0 = OthersStay h w in
    let given : OthersStay h w (step h w) = record { ages = step-ages h w; keeps = step-keeps h w } in
    subst P (sym same) given
