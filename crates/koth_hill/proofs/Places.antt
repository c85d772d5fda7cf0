-- Places of entries among those that have them.
use Rattle.std.proofs.Common.{◌≡◌, ℕ, ◌+◌, ◌-◌, ◌<◌, ◌≤◌, IfSome, arith, add-one, drop-cons, true, false, zero, suc, All, subst, take, drop, ◌++◌, Bool, not, List, [], ◌∷◌, length, map, get_or, refl, sym, ap, ap₂, ◌∙◌, cond, Option, None, Some}
use Rattle.std.specs.{Prelude.{◌==◌, if◌then◌else◌, nat_lt, slice_get}, Option.option_map, List.{copy_within, position, position_or_len, remove}}
use Rattle.std.proofs.{lemmas.Bool.{cond-true, cond-false, le-ltb, lt-ltb}, lemmas.List.{drop-take, get_or-map, length-drop, length-map, take-take, Edits.take-paste, Quantifiers.position-Some, Elements.{All-get_or, All-tail}}}
use Rattle.{std.proofs.lemmas.Option.{slice_get-map, slice_get-get_or}, koth_match.specs.{declared.bout.Bout.Bout, Match.rounds_in}}
use Rattle.koth_hill.specs.{declared.standings.Standing.Standing, Hill.{older_points, younger_points}, Step.is_entry, Kept.{place_of, result_at, result_in}, Standings.{StandingParts, kept_in, points_between, left, AreApart, HaveRounds, standing_parts, entries_in, entry_at, rows_in, result_in_standings}}

-- the first that passes a test of what is shown of it
pub position-map : {X Y : Type 0} (p : Y → Bool) (f : X → Y) (xs : List X) → position p (map f xs) ≡ position (λ x. p (f x)) xs
position-map {X} {Y} p f xs = ap₂ (λ (i n : ℕ). cond (nat_lt i n) (Some i) None) (first xs) (length-map xs f)
  where
    first : (ys : List X) → position_or_len p (map f ys) ≡ position_or_len (λ x. p (f x)) ys
    first [] = refl
    first (y ∷ ys) = ap (λ (n : ℕ). cond (not (p (f y))) (1 + n) 0) (first ys)

-- ---- results of standings

pub place-standing : (ss : List Standing) (entry : ℕ) → place_of (entries_in (map standing_parts ss)) entry ≡ position (λ s. s.entry == entry) ss
place-standing ss entry =
    position-map (λ e. e == entry) (λ (s : StandingParts). s.entry) (map standing_parts ss)
    ∙ position-map (λ (s : StandingParts). s.entry == entry) standing_parts ss

-- the row at a place
pub row-at : (ss : List Standing) (j : ℕ) (s : Standing) → slice_get ss j ≡ Some s → slice_get (rows_in (map standing_parts ss)) j ≡ Some s.bouts.now
row-at ss j s here =
    slice_get-map (λ (x : StandingParts). x.bouts) (map standing_parts ss) j
    ∙ ap (option_map (λ (x : StandingParts). x.bouts)) (slice_get-map standing_parts ss j ∙ ap (option_map standing_parts) here)

module _ (ss : List Standing) (older younger : ℕ) where
  abbrev rows : List (List Bout)
  rows = rows_in (map standing_parts ss)

  -- the older is none of these
  pub no-older : position (λ s. s.entry == older) ss ≡ None → result_in_standings (map standing_parts ss) older younger ≡ None
  no-older none = ap (λ (o : Option ℕ). result_at rows o (place_of (entries_in (map standing_parts ss)) younger)) (place-standing ss older ∙ none)

  -- the younger is none of these
  pub no-younger : (i : ℕ) → position (λ s. s.entry == older) ss ≡ Some i → position (λ s. s.entry == younger) ss ≡ None → result_in_standings (map standing_parts ss) older younger ≡ None
  no-younger i one none = ap₂ (λ (o p : Option ℕ). result_at rows o p) (place-standing ss older ∙ one) (place-standing ss younger ∙ none)

  -- both are
  pub both-there : (i j : ℕ) (d : Standing) → position (λ s. s.entry == older) ss ≡ Some i → position (λ s. s.entry == younger) ss ≡ Some j →
      result_in_standings (map standing_parts ss) older younger ≡ slice_get (get_or ss j d).bouts.now i
  both-there i j d one other =
      ap₂ (λ (o p : Option ℕ). result_at rows o p) (place-standing ss older ∙ one) (place-standing ss younger ∙ other)
      ∙ ap (λ (row : Option (List Bout)). result_in row i)
      (row-at ss j (get_or ss j d) (slice_get-get_or ss j d ((position-Some (λ s. s.entry == younger) ss j d other).0)))

-- ---- two of the standings, by their places

module _ (ss : List Standing) where
  abbrev entries : List ℕ
  entries = entries_in (map standing_parts ss)

  many-entries : length entries ≡ length ss
  many-entries = length-map (map standing_parts ss) (λ (s : StandingParts). s.entry) ∙ length-map ss standing_parts

  pub entry_standing : (i : ℕ) (d : Standing) → i < length ss → (get_or ss i d).entry ≡ entry_at (map standing_parts ss) i
  entry_standing i d within =
      sym (get_or-map (λ (s : StandingParts). s.entry) (map standing_parts ss) i (standing_parts d) 0 (omega (arith, within, length-map ss standing_parts))
      ∙ ap (λ (s : StandingParts). s.entry) (get_or-map standing_parts ss i d (standing_parts d) within))

  row_standing : (i : ℕ) (d : Standing) → i < length ss → get_or (rows_in (map standing_parts ss)) i d.bouts.now ≡ (get_or ss i d).bouts.now
  row_standing i d within =
      get_or-map (λ (s : StandingParts). s.bouts) (map standing_parts ss) i (standing_parts d) d.bouts.now (omega (arith, within, length-map ss standing_parts))
      ∙ ap (λ (s : StandingParts). s.bouts) (get_or-map standing_parts ss i d (standing_parts d) within)

  -- the result of the younger with the older stands at the older's place
  pub both-placed : (i j : ℕ) (d : Standing) → AreApart entries → i < length ss → j < length ss →
      result_in_standings (map standing_parts ss) (entry_at (map standing_parts ss) i) (entry_at (map standing_parts ss) j) ≡ slice_get (get_or ss j d).bouts.now i
  both-placed i j d apart older younger =
      ap₂ (λ (o p : Option ℕ). result_at (rows_in (map standing_parts ss)) o p) (apart i (omega (arith, older, many-entries))) (apart j (omega (arith, younger, many-entries)))
      ∙ ap (λ (row : Option (List Bout)). result_in row i) (row-at ss j (get_or ss j d) (slice_get-get_or ss j d younger))

  -- and has no more rounds than are counted
  pub rounds-placed : (i j : ℕ) (d : Standing) → HaveRounds (map standing_parts ss) → j < length ss → IfSome (slice_get (get_or ss j d).bouts.now i) (λ b. rounds_in b ≤ 1000)
  rounds-placed i j d rounds younger =
      let P : List Bout → Type 0 = λ row. All (λ b. rounds_in b ≤ 1000) row in
      let many : length (rows_in (map standing_parts ss)) ≡ length ss = length-map (map standing_parts ss) (λ (s : StandingParts). s.bouts) ∙ length-map ss standing_parts in
      let row : P (get_or ss j d).bouts.now = subst P (row_standing j d younger) (All-get_or P (rows_in (map standing_parts ss)) j d.bouts.now (omega (arith, younger, many)) rounds) in
      some-of (get_or ss j d).bouts.now i row
    where
      some-of : (xs : List Bout) (k : ℕ) → All (λ b. rounds_in b ≤ 1000) xs → IfSome (slice_get xs k) (λ b. rounds_in b ≤ 1000)
      some-of [] k all = tt
      some-of (x ∷ xs) zero all = All-get_or (λ b. rounds_in b ≤ 1000) (x ∷ xs) 0 x (omega arith) all
      some-of (x ∷ xs) (suc k) all = some-of xs k (All-tail (λ b. rounds_in b ≤ 1000) x xs all)

  -- those from a place on but for the one that is out
  abbrev pub left-from : Option ℕ → ℕ → List ℕ
  left-from out i = left out (entries_in (map standing_parts (drop i ss)))

  module _ (out : Option ℕ) (i : ℕ) (d : Standing) (within : i < length ss) where
    one-left : left-from out i ≡ (if is_entry (get_or ss i d).entry out then left-from out (i + 1) else (get_or ss i d).entry ∷ left-from out (i + 1))
    one-left =
        let split : drop i ss ≡ get_or ss i d ∷ drop (i + 1) ss = rw add-one (drop-cons ss i d within) in
        ap (λ (xs : List Standing). left out (entries_in (map standing_parts xs))) split

    pub left-passed : is_entry (get_or ss i d).entry out ≡ true → left-from out i ≡ left-from out (i + 1)
    left-passed goes = one-left ∙ cond-true (is_entry (get_or ss i d).entry out) (left-from out (i + 1)) ((get_or ss i d).entry ∷ left-from out (i + 1)) goes

    pub left-taken : is_entry (get_or ss i d).entry out ≡ false → left-from out i ≡ entry_at (map standing_parts ss) i ∷ left-from out (i + 1)
    left-taken stays =
        one-left ∙ cond-false (is_entry (get_or ss i d).entry out) (left-from out (i + 1)) ((get_or ss i d).entry ∷ left-from out (i + 1)) stays
        ∙ ap (λ (e : ℕ). e ∷ left-from out (i + 1)) (entry_standing i d within)

-- ---- what one earns against another

module _ (ss : List StandingParts) (e m : ℕ) where
  pub earned-older : e < m → older_points (kept_in ss e m) ≡ points_between (kept_in ss) e m
  earned-older less =
      sym (cond-true (nat_lt e m) (older_points (kept_in ss e m)) (if nat_lt m e then younger_points (kept_in ss m e) else 0) (lt-ltb e m less))

  not-older : m ≤ e → points_between (kept_in ss) e m ≡ (if nat_lt m e then younger_points (kept_in ss m e) else 0)
  not-older least =
      cond-false (nat_lt e m) (older_points (kept_in ss e m)) (if nat_lt m e then younger_points (kept_in ss m e) else 0) (le-ltb e m least)

  pub earned-younger : m < e → younger_points (kept_in ss m e) ≡ points_between (kept_in ss) e m
  earned-younger less = sym (not-older (omega (arith, less)) ∙ cond-true (nat_lt m e) (younger_points (kept_in ss m e)) 0 (lt-ltb m e less))

  pub earned-none : m ≤ e → e ≤ m → 0 ≡ points_between (kept_in ss) e m
  earned-none least most = sym (not-older least ∙ cond-false (nat_lt m e) (younger_points (kept_in ss m e)) 0 (le-ltb m e most))

-- ---- one taken out of its place

-- those after it move up by one
pub moved-up : (xs new : List Bout) (place len : ℕ) → place < len → len ≤ length xs → new ≡ copy_within xs (place + 1) len place → take (len - 1) new ≡ remove (take len xs) place
moved-up xs new place len within long moved =
    ap₂ (λ (n : ℕ) (ys : List Bout). take n ys) split moved
    ∙ take-paste xs place (drop (place + 1) xs) more (omega arith) fits
    ∙ ap₂ (λ (ys zs : List Bout). ys ++ zs) (sym (take-take place len xs (omega arith))) (sym (ap (λ (n : ℕ). drop (place + 1) (take n xs)) whole ∙ drop-take (place + 1) more xs))
    ∙ ap (λ (n : ℕ). take place (take len xs) ++ drop n (take len xs)) next
  where
    more : ℕ
    more = len - (place + 1)

    split : len - 1 ≡ place + more
    split = omega (arith, within)

    whole : len ≡ place + 1 + more
    whole = omega (arith, within)

    next : place + 1 ≡ suc place
    next = omega arith

    fits : more ≤ length (drop (place + 1) xs)
    fits = omega (arith, long, within, length-drop (place + 1) xs)
