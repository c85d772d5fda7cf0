-- What rests on the results of matches rests on those of its own members alone, and on no age.
use Rattle.std.proofs.Common.{◌≡◌, ℕ, ◌+◌, ◌<◌, ◌⊎◌, inl, inr, true, false, List, [], ◌∷◌, ◌++◌, length, map, refl, sym, ap, ap₂, subst, ◌∙◌, arith, Option, None}
use Rattle.{std.specs.Prelude.{if◌then◌else◌, nat_lt}, std.proofs.lemmas.Bool.{ltb-true, cond-true, cond-false, cases_Bool}, war_types.specs.Warrior.WarriorParts}
use Rattle.{koth_match.specs.declared.bout.Bout.Bout, koth_hill.specs.{declared.score.Score.Score, declared.verdict.Verdict.Verdict}}
use Rattle.koth_hill.specs.{Hill.{Member, Hill, Results, older_points, younger_points, points_against, points}, Scores.{score_of, scores_of, rank_among, last_among}, Table.{rows_by_rank, table_by}}
use Rattle.koth_hill.specs.{Step.{challenger, enlarged, falling_by, is_entry, without, one_older, stays_by, after_stay, after_fall, step_by, placed_verdict, fallen_verdict, verdict_by}, Laws.In}
use Rattle.koth_hill.proofs.Members.{older}

-- both say the same of each two of these
abbrev pub Agree : Results → Results → List Member → Type 0
Agree f g ms = (o y : Member) → In o ms → In y ms → o.entry < y.entry → f o.entry o.warrior y.entry y.warrior ≡ g o.entry o.warrior y.entry y.warrior

-- ---- points

-- what the younger of two earns, and nothing for the older
abbrev as_younger : Results → Member → Member → ℕ
as_younger f e m = if nat_lt m.entry e.entry then younger_points (f m.entry m.warrior e.entry e.warrior) else 0

as_younger-agree : (f g : Results) (ms : List Member) (e m : Member) → Agree f g ms → In e ms → In m ms → as_younger f e m ≡ as_younger g e m
as_younger-agree f g ms e m agree mine its = elim (cases_Bool (nat_lt m.entry e.entry)) [
  | inl less ↦
      cond-true (nat_lt m.entry e.entry) (younger_points (f m.entry m.warrior e.entry e.warrior)) 0 less
      ∙ ap younger_points (agree m e its mine (ltb-true m.entry e.entry less))
      ∙ sym (cond-true (nat_lt m.entry e.entry) (younger_points (g m.entry m.warrior e.entry e.warrior)) 0 less)
  | inr none ↦
      cond-false (nat_lt m.entry e.entry) (younger_points (f m.entry m.warrior e.entry e.warrior)) 0 none
      ∙ sym (cond-false (nat_lt m.entry e.entry) (younger_points (g m.entry m.warrior e.entry e.warrior)) 0 none)
]

points_against-agree : (f g : Results) (ms : List Member) (e m : Member) → Agree f g ms → In e ms → In m ms → points_against f e m ≡ points_against g e m
points_against-agree f g ms e m agree mine its = elim (cases_Bool (nat_lt e.entry m.entry)) [
  | inl less ↦
      cond-true (nat_lt e.entry m.entry) (older_points (f e.entry e.warrior m.entry m.warrior)) (as_younger f e m) less
      ∙ ap older_points (agree e m mine its (ltb-true e.entry m.entry less))
      ∙ sym (cond-true (nat_lt e.entry m.entry) (older_points (g e.entry e.warrior m.entry m.warrior)) (as_younger g e m) less)
  | inr other ↦
      cond-false (nat_lt e.entry m.entry) (older_points (f e.entry e.warrior m.entry m.warrior)) (as_younger f e m) other
      ∙ as_younger-agree f g ms e m agree mine its
      ∙ sym (cond-false (nat_lt e.entry m.entry) (older_points (g e.entry e.warrior m.entry m.warrior)) (as_younger g e m) other)
]

pub points-agree : (f g : Results) (ms xs : List Member) (e : Member) → Agree f g ms → ((m : Member) → In m xs → In m ms) → In e ms → points f xs e ≡ points g xs e
points-agree f g ms [] e agree are mine = refl
points-agree f g ms (m ∷ xs) e agree are mine =
    ap₂ (λ (a b : ℕ). a + b) (points_against-agree f g ms e m agree mine (are m (inl refl))) (points-agree f g ms xs e agree (λ x here. are x (inr here)) mine)

-- ---- scores

scores-agree : (f g : Results) (ms xs : List Member) → Agree f g ms → ((m : Member) → In m xs → In m ms) → map (score_of f ms) xs ≡ map (score_of g ms) xs
scores-agree f g ms [] agree are = refl
scores-agree f g ms (m ∷ xs) agree are =
    let same : points f ms m ≡ points g ms m = points-agree f g ms ms m agree (λ x here. here) (are m (inl refl)) in
    ap₂ (λ (n : ℕ) (rest : List Score). record { entry = m.entry; points = n } ∷ rest) same (scores-agree f g ms xs agree (λ x here. are x (inr here)))

pub scores_of-agree : (f g : Results) (ms : List Member) → Agree f g ms → scores_of f ms ≡ scores_of g ms
scores_of-agree f g ms agree = scores-agree f g ms ms agree (λ x here. here)

pub table_by-agree : (f g : Results) (ms : List Member) → Agree f g ms → table_by f ms ≡ table_by g ms
table_by-agree f g ms agree = ap (λ (xs : List Score). rows_by_rank xs ms 1 (length ms)) (scores_of-agree f g ms agree)

-- ---- who falls

pub falling_by-agree : (f g : Results) (h : Hill) (w : WarriorParts) → Agree f g (enlarged h w) → falling_by f h w ≡ falling_by g h w
falling_by-agree f g h w agree =
    ap (λ (xs : List Score). if nat_lt h.settings.capacity (length (enlarged h w)) then last_among xs xs else None) (scores_of-agree f g (enlarged h w) agree)

pub stays_by-agree : (f g : Results) (h : Hill) (w : WarriorParts) → Agree f g (enlarged h w) → stays_by f h w ≡ stays_by g h w
stays_by-agree f g h w agree = ap (λ (o : Option ℕ). if is_entry (h.counter + 1) o then false else true) (falling_by-agree f g h w agree)

pub step_by-agree : (f g : Results) (h : Hill) (w : WarriorParts) → Agree f g (enlarged h w) → step_by f h w ≡ step_by g h w
unfolding step_by
step_by-agree f g h w agree =
    ap (λ (o : Option ℕ). if (if is_entry (h.counter + 1) o then false else true) then after_stay h w o else after_fall h) (falling_by-agree f g h w agree)

-- ---- ages are worth nothing

-- one of these has this entry and this warrior
pub record HasOne (ms : List Member) (m : Member) : Type 0 where
  pub it : Member
  pub here : In it ms
  pub entry : m.entry ≡ it.entry
  pub warrior : m.warrior ≡ it.warrior

pub Agree-had : (f g : Results) (xs ms : List Member) → ((m : Member) → In m xs → HasOne ms m) → Agree f g ms → Agree f g xs
Agree-had f g xs ms has agree o y older younger less =
    let a : HasOne ms o = has o older in
    let b : HasOne ms y = has y younger in
    let result : (r : Results) → r o.entry o.warrior y.entry y.warrior ≡ r a.it.entry a.it.warrior b.it.entry b.it.warrior =
    λ r i. r (a.entry i) (a.warrior i) (b.entry i) (b.warrior i) in
    let below : a.it.entry < b.it.entry = omega (arith, less, a.entry, b.entry) in
    result f ∙ agree a.it b.it a.here b.here below ∙ sym (result g)

has_later : (x : Member) (ms : List Member) (m : Member) → HasOne ms m → HasOne (x ∷ ms) m
has_later x ms m has = record { it = has.it; here = inr has.here; entry = has.entry; warrior = has.warrior }

-- who stays was there before
left-had : (fallen : Option ℕ) (ms : List Member) (m : Member) → In m (one_older (without fallen ms)) → HasOne ms m
left-had fallen [] m here = absurd here
left-had fallen (x ∷ ms) m here =
    let P : List Member → Type 0 = λ xs. In m (one_older xs) in
    elim (cases_Bool (is_entry x.entry fallen)) [
      | inl goes ↦ has_later x ms m (left-had fallen ms m (subst P (cond-true (is_entry x.entry fallen) (without fallen ms) (x ∷ without fallen ms) goes) here))
      | inr keeps ↦ elim (subst P (cond-false (is_entry x.entry fallen) (without fallen ms) (x ∷ without fallen ms) keeps) here) [
        | inl same ↦ record { it = x; here = inl refl; entry = ap (λ (y : Member). y.entry) same; warrior = ap (λ (y : Member). y.warrior) same }
        | inr later ↦ has_later x ms m (left-had fallen ms m later)
      ]
    ]

pub In-append : (xs ys : List Member) (m : Member) → In m (xs ++ ys) → In m xs ⊎ In m ys
In-append [] ys m here = inr here
In-append (x ∷ xs) ys m (inl same) = inl (inl same)
In-append (x ∷ xs) ys m (inr later) = elim (In-append xs ys m later) [ inl here ↦ inl (inr here) | inr there ↦ inr there ]

pub In-left : (xs ys : List Member) (m : Member) → In m xs → In m (xs ++ ys)
In-left [] ys m here = absurd here
In-left (x ∷ xs) ys m (inl same) = inl same
In-left (x ∷ xs) ys m (inr later) = inr (In-left xs ys m later)

pub In-right : (xs ys : List Member) (m : Member) → In m ys → In m (xs ++ ys)
In-right [] ys m here = here
In-right (x ∷ xs) ys m here = inr (In-right xs ys m here)

-- the members of the new hill were all on the old one, or are the challenger
pub stayed-had : (h : Hill) (w : WarriorParts) (fallen : Option ℕ) (m : Member) → In m (after_stay h w fallen).members → HasOne (enlarged h w) m
stayed-had h w fallen m here = elim (In-append (one_older (without fallen h.members)) (challenger h w ∷ []) m here) [
  | inl old ↦
      let was : HasOne h.members m = left-had fallen h.members m old in
      record { it = was.it; here = In-left h.members (challenger h w ∷ []) was.it was.here; entry = was.entry; warrior = was.warrior }
  | inr own ↦ record { it = m; here = In-right h.members (challenger h w ∷ []) m own; entry = refl; warrior = refl }
]

-- ---- verdicts

placed_verdict-agree : (f g : Results) (bouts : List Bout) (h : Hill) (w : WarriorParts) (fallen : Option ℕ) → Agree f g (after_stay h w fallen).members →
    placed_verdict f bouts h w fallen ≡ placed_verdict g bouts h w fallen
placed_verdict-agree f g bouts h w fallen agree =
    let new : List Member = (after_stay h w fallen).members in
    let same : points f new (challenger h w) ≡ points g new (challenger h w) =
    points-agree f g new new (challenger h w) agree (λ x here. here) (In-right (one_older (without fallen h.members)) (challenger h w ∷ []) (challenger h w) (inl refl)) in
    ap₂ (λ (n : ℕ) (xs : List Score). record {
      entry = h.counter + 1;
      stays = true;
      falls = fallen;
      score = n;
      rank = rank_among xs (record { entry = h.counter + 1; points = n });
      bouts = bouts;
    }) same (scores_of-agree f g new agree)

fallen_verdict-agree : (f g : Results) (bouts : List Bout) (h : Hill) (w : WarriorParts) (fallen : Option ℕ) → Agree f g (enlarged h w) →
    fallen_verdict f bouts h w fallen ≡ fallen_verdict g bouts h w fallen
fallen_verdict-agree f g bouts h w fallen agree =
    ap (λ (n : ℕ). record { entry = h.counter + 1; stays = false; falls = fallen; score = n; rank = 0; bouts = bouts })
    (points-agree f g (enlarged h w) (enlarged h w) (challenger h w) agree (λ x here. here) (In-right h.members (challenger h w ∷ []) (challenger h w) (inl refl)))

pub verdict_by-agree : (f g : Results) (bouts : List Bout) (h : Hill) (w : WarriorParts) → Agree f g (enlarged h w) → verdict_by f bouts h w ≡ verdict_by g bouts h w
unfolding verdict_by
verdict_by-agree f g bouts h w agree =
    ap (λ (o : Option ℕ). judged f o) (falling_by-agree f g h w agree)
    ∙ ap₂ (λ (x y : Verdict). if (if is_entry (h.counter + 1) fallen then false else true) then x else y)
    (placed_verdict-agree f g bouts h w fallen (Agree-had f g (after_stay h w fallen).members (enlarged h w) (stayed-had h w fallen) agree))
    (fallen_verdict-agree f g bouts h w fallen agree)
  where
    fallen : Option ℕ
    fallen = falling_by g h w

    judged : Results → Option ℕ → Verdict
    judged r o = if (if is_entry (h.counter + 1) o then false else true) then placed_verdict r bouts h w o else fallen_verdict r bouts h w o
