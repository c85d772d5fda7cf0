-- The results of matches that were fought for each member, looked up by the entries of two.
use Rattle.std.proofs.Common.{◌≡◌, ℕ, ◌+◌, ◌<◌, inl, inr, Bool, true, false, cond, not, List, [], ◌∷◌, ◌++◌, length, take, map, refl, sym, ap, ap₂, ◌∙◌, arith, suc, zero, Option, None, Some}
use Rattle.{std.proofs.Common.{append_assoc, append-nil, get_or, slice_get, position}, std.specs.{Prelude.{◌==◌, nat_lt}, List.position_or_len}}
use Rattle.std.proofs.{lemmas.Bool.{lt-ltb, eq-eqb, eqb-true, ne_eqb, cond-true}, lemmas.List.get_or-map, lemmas.List.Quantifiers.position-Some, lemmas.Option.{slice_get-get_or, slice_get_within}}
use Rattle.{war_types.specs.declared.settings.RawSettings.RawSettings, koth_match.specs.{declared.bout.Bout.Bout, Match.match_of}, koth_hill.specs.{Hill.{Member, RiseFrom, fights}, Step.matches_with}}
use Rattle.{koth_hill.specs.{Kept.{fought_from, result_in, result_at, or_no_rounds, place_of, kept_results, entries_of}, Laws.In, Standings.AreApart}, koth_hill.proofs.Agrees.Agree}

-- ---- places

position-first : {X : Type 0} (p : X → Bool) (xs : List X) (i : ℕ) → position_or_len p xs ≡ i → i < length xs → position p xs ≡ Some i
position-first p xs i first within =
    ap (λ (n : ℕ). cond (nat_lt n (length xs)) (Some n) None) first ∙ cond-true (nat_lt i (length xs)) (Some i) None (lt-ltb i (length xs) within)

passes-first : {X : Type 0} (p : X → Bool) (x : X) (xs : List X) → p x ≡ true → position_or_len p (x ∷ xs) ≡ 0
passes-first p x xs passes = ap (λ (b : Bool). cond (not b) (1 + position_or_len p xs) 0) passes

fails-first : {X : Type 0} (p : X → Bool) (x : X) (xs : List X) → p x ≡ false → position_or_len p (x ∷ xs) ≡ 1 + position_or_len p xs
fails-first p x xs fails = ap (λ (b : Bool). cond (not b) (1 + position_or_len p xs) 0) fails

pub In-behind : (before : ℕ) (ms : List Member) (m : Member) → RiseFrom before ms → In m ms → before < m.entry
In-behind before [] m rising here = absurd here
In-behind before (x ∷ ms) m rising (inl same) = omega (arith, rising.0, ap (λ (y : Member). y.entry) same)
In-behind before (x ∷ ms) m rising (inr later) = omega (arith, rising.0, In-behind x.entry ms m rising.1 later)

-- the place of a member, which is that of its entry
pub record IsAt (ms : List Member) (m : Member) : Type 0 where
  pub place : ℕ
  pub within : place < length ms
  pub is : slice_get ms place ≡ Some m
  pub first : position_or_len (λ e. e == m.entry) (entries_of ms) ≡ place

pub In-place : (before : ℕ) (ms : List Member) (m : Member) → RiseFrom before ms → In m ms → IsAt ms m
In-place before [] m rising here = absurd here
In-place before (x ∷ ms) m rising (inl same) = record {
  place = 0;
  within = omega arith;
  is = ap (λ (y : Member). Some y) (sym same);
  first = passes-first (λ e. e == m.entry) x.entry (entries_of ms) (eq-eqb x.entry m.entry (ap (λ (y : Member). y.entry) (sym same)));
}
In-place before (x ∷ ms) m rising (inr later) =
    let at : IsAt ms m = In-place x.entry ms m rising.1 later in
    let above : x.entry < m.entry = In-behind x.entry ms m rising.1 later in record {
      place = suc at.place;
      within = omega (arith, at.within);
      is = at.is;
      first = fails-first (λ e. e == m.entry) x.entry (entries_of ms) (ne_eqb x.entry m.entry (λ same. omega (arith, above, same))) ∙ omega (arith, at.first);
    }

length-entries : (ms : List Member) → length (entries_of ms) ≡ length ms
length-entries [] = refl
length-entries (m ∷ ms) = ap suc (length-entries ms)

pub place_of-member : (ms : List Member) (m : Member) (at : IsAt ms m) → place_of (entries_of ms) m.entry ≡ Some at.place
place_of-member ms m at = position-first (λ e. e == m.entry) (entries_of ms) at.place at.first (omega (arith, at.within, length-entries ms))

same_some : (x y : Member) → Some x ≡ Some y → x ≡ y
same_some x y e = cc

slice_get-In : (ms : List Member) (i : ℕ) (m : Member) → slice_get ms i ≡ Some m → In m ms
slice_get-In [] i m is = cc
slice_get-In (x ∷ ms) zero m is = inl (sym (same_some x m is))
slice_get-In (x ∷ ms) (suc i) m is = inr (slice_get-In ms i m is)

-- the place of the entry of the one at a place is that place
first-at : (before : ℕ) (ms : List Member) (n : ℕ) (m : Member) → RiseFrom before ms → slice_get ms n ≡ Some m → position_or_len (λ e. e == m.entry) (entries_of ms) ≡ n
first-at before [] n m rising is = cc
first-at before (x ∷ ms) zero m rising is =
    passes-first (λ e. e == m.entry) x.entry (entries_of ms) (eq-eqb x.entry m.entry (ap (λ (y : Member). y.entry) (same_some x m is)))
first-at before (x ∷ ms) (suc n) m rising is =
    let above : x.entry < m.entry = In-behind x.entry ms m rising.1 (slice_get-In ms n m is) in
    fails-first (λ e. e == m.entry) x.entry (entries_of ms) (ne_eqb x.entry m.entry (λ same. omega (arith, above, same)))
    ∙ omega (arith, first-at x.entry ms n m rising.1 is)

pub place_of-at : (ms : List Member) (n : ℕ) (m : Member) → RiseFrom 0 ms → slice_get ms n ≡ Some m → place_of (entries_of ms) m.entry ≡ Some n
place_of-at ms n m rising is =
    position-first (λ e. e == m.entry) (entries_of ms) n (first-at 0 ms n m rising is) (omega (arith, slice_get_within ms n m is, length-entries ms))

-- and the one at the place of an entry has that entry
pub placed : (ms : List Member) (entry n : ℕ) (d : Member) → place_of (entries_of ms) entry ≡ Some n → (slice_get ms n ≡ Some (get_or ms n d)) × ((get_or ms n d).entry ≡ entry)
placed ms entry n d found =
    let there = position-Some (λ e. e == entry) (entries_of ms) n d.entry found in
    let within : n < length ms = omega (arith, there.0, length-entries ms) in (
      slice_get-get_or ms n d within,
      sym (get_or-map (λ (m : Member). m.entry) ms n d d.entry within) ∙ eqb-true (get_or (entries_of ms) n d.entry) entry there.1,
    )

-- no entry stands at two places
pub entries-apart : (ms : List Member) → RiseFrom 0 ms → AreApart (entries_of ms)
entries-apart [] rising i within = absurd (omega (arith, within))
entries-apart (m ∷ ms) rising i within =
    let inside : i < length (m ∷ ms) = omega (arith, within, length-entries (m ∷ ms)) in
    let entry : get_or (entries_of (m ∷ ms)) i 0 ≡ (get_or (m ∷ ms) i m).entry = get_or-map (λ (x : Member). x.entry) (m ∷ ms) i m 0 inside in
    ap (place_of (entries_of (m ∷ ms))) entry ∙ place_of-at (m ∷ ms) i (get_or (m ∷ ms) i m) rising (slice_get-get_or (m ∷ ms) i m inside)

-- who has the lower entry has the lower place
pub places-rise : (before : ℕ) (ms : List Member) (i j : ℕ) (o y : Member) → RiseFrom before ms → slice_get ms i ≡ Some o → slice_get ms j ≡ Some y → o.entry < y.entry → i < j
places-rise before [] i j o y rising older younger less = cc
places-rise before (x ∷ ms) zero zero o y rising older younger less =
    let same : o.entry ≡ y.entry = ap (λ (m : Member). m.entry) (sym (same_some x o older) ∙ same_some x y younger) in absurd (omega (arith, less, same))
places-rise before (x ∷ ms) zero (suc j) o y rising older younger less = omega arith
places-rise before (x ∷ ms) (suc i) zero o y rising older younger less =
    let above : x.entry < o.entry = In-behind x.entry ms o rising.1 (slice_get-In ms i o older) in
    absurd (omega (arith, less, above, ap (λ (m : Member). m.entry) (same_some x y younger)))
places-rise before (x ∷ ms) (suc i) (suc j) o y rising older younger less = omega (arith, places-rise x.entry ms i j o y rising.1 older younger less)

-- ---- rows

slice_get-map : {X Y : Type 0} (f : X → Y) (xs : List X) (i : ℕ) (x : X) → slice_get xs i ≡ Some x → slice_get (map f xs) i ≡ Some (f x)
slice_get-map f [] i x is = cc
slice_get-map f (y ∷ xs) zero x is = let same : y ≡ x = cc in ap (λ z. Some (f z)) same
slice_get-map f (y ∷ xs) (suc i) x is = slice_get-map f xs i x is

pub slice_get-take : {X : Type 0} (xs : List X) (i j : ℕ) → i < j → slice_get (take j xs) i ≡ slice_get xs i
slice_get-take [] i zero less = refl
slice_get-take [] i (suc j) less = refl
slice_get-take (x ∷ xs) i zero less = absurd (omega (arith, less))
slice_get-take (x ∷ xs) zero (suc j) less = refl
slice_get-take (x ∷ xs) (suc i) (suc j) less = slice_get-take xs i j (omega (arith, less))

-- the row of a member has its matches with those before it
pub fought_from-row : (s : RawSettings) (before ms : List Member) (j : ℕ) (y : Member) → slice_get ms j ≡ Some y →
    slice_get (fought_from s before ms) j ≡ Some (matches_with s (before ++ take j ms) y.warrior)
fought_from-row s before [] j y is = cc
fought_from-row s before (m ∷ ms) zero y is =
    ap₂ (λ (xs : List Member) (c : Member). Some (matches_with s xs c.warrior)) (sym (append-nil before)) (same_some m y is)
fought_from-row s before (m ∷ ms) (suc j) y is =
    fought_from-row s (before ++ m ∷ []) ms j y is
    ∙ ap (λ (xs : List Member). Some (matches_with s xs y.warrior)) (append_assoc before (m ∷ []) (take j ms))

fought-result : (s : RawSettings) (ms : List Member) (i j : ℕ) (o y : Member) → slice_get ms i ≡ Some o → slice_get ms j ≡ Some y → i < j →
    result_at (fought_from s [] ms) (Some i) (Some j) ≡ Some (match_of s o.warrior y.warrior)
fought-result s ms i j o y older younger less =
    ap (λ (row : Option (List Bout)). result_in row i) (fought_from-row s [] ms j y younger)
    ∙ slice_get-map (λ (m : Member). match_of s m.warrior y.warrior) (take j ms) i o (slice_get-take ms i j less ∙ older)

-- what is fought for each, looked up, is the match
pub fought-looked : (s : RawSettings) (ms : List Member) → RiseFrom 0 ms → Agree (kept_results (entries_of ms) (fought_from s [] ms)) (fights s) ms
fought-looked s ms rising o y older younger less =
    let a : IsAt ms o = In-place 0 ms o rising older in
    let b : IsAt ms y = In-place 0 ms y rising younger in
    ap₂ (λ (i j : Option ℕ). or_no_rounds (result_at (fought_from s [] ms) i j)) (place_of-member ms o a) (place_of-member ms y b)
    ∙ ap or_no_rounds (fought-result s ms a.place b.place o y a.is b.is (places-rise 0 ms a.place b.place o y rising a.is b.is less))
