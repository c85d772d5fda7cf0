-- The first kept result that is not the result of its match.
use Rattle.std.proofs.Common.{◌≡◌, ℕ, ◌+◌, ◌<◌, List, [], ◌∷◌, length, take, get_or, refl, sym, ap, ap₂, subst, ◌∙◌, arith, suc, zero, Option, None, Some, slice_get}
use Rattle.{std.proofs.{lemmas.List.{length-map, length-take, take-map}, lemmas.Option.slice_get-get_or}, war_types.specs.{declared.settings.RawSettings.RawSettings, Warrior.WarriorParts}}
use Rattle.{koth_match.specs.{declared.bout.Bout.Bout, Match.match_of}, koth_hill.specs.{Hill.Member, Step.matches_with}}
use Rattle.koth_hill.specs.Kept.{Kept, Entrant, AreRows, AreTrueBefore, IsFirstDifference, IsKept, IsUntrue, entries_of, fought_from, kept_of, members_of, place_of, result_at, result_in}
use Rattle.{koth_hill.specs.Kept.{result_of, rows_of}, koth_hill.proofs.{RowsKept.AreRows-fought, Shown.shown-at, Looked.{fought_from-row, place_of-at, placed, places-rise, slice_get-take}}}

-- ---- looked up in rows that are the same so far

same-looked : (rows others : List (List Bout)) (older younger : Option ℕ) →
    ((j : ℕ) → younger ≡ Some j → slice_get rows j ≡ slice_get others j) → result_at rows older younger ≡ result_at others older younger
same-looked rows others None younger same = refl
same-looked rows others (Some i) None same = refl
same-looked rows others (Some i) (Some j) same = ap (λ (row : Option (List Bout)). result_in row i) (same j refl)

same-in_row : (rows others : List (List Bout)) (older : Option ℕ) (n : ℕ) →
    ((i : ℕ) → older ≡ Some i → result_in (slice_get rows n) i ≡ result_in (slice_get others n) i) → result_at rows older (Some n) ≡ result_at others older (Some n)
same-in_row rows others None n same = refl
same-in_row rows others (Some i) n same = same i refl

slice_get-same : {X : Type 0} (xs ys : List X) (i n : ℕ) → i < n → take n xs ≡ take n ys → slice_get xs i ≡ slice_get ys i
slice_get-same xs ys i n less same = sym (slice_get-take xs i n less) ∙ ap (λ zs. slice_get zs i) same ∙ slice_get-take ys i n less

-- ---- a member, with its results and its matches

pub record IsAtMember (k : Kept) (n : ℕ) (younger : Member) (row fought : List Bout) : Type 0 where
  pub is : IsKept k
  pub member_is : slice_get k.members n ≡ Some younger
  pub row_is : slice_get k.results n ≡ Some row
  pub fought_is : slice_get (fought_from k.settings [] k.members) n ≡ Some fought

row-long : (rounds n j : ℕ) (rows : List (List Bout)) (row : List Bout) → AreRows rounds n rows → slice_get rows j ≡ Some row → length row ≡ n + j
row-long rounds n j [] row are here = cc
row-long rounds n zero (x ∷ rows) row are here = let same : row ≡ x = cc in omega (arith, are.0, ap length same)
row-long rounds n (suc j) (x ∷ rows) row are here = omega (arith, row-long rounds (n + 1) j rows row are.2 here)

-- as many results are kept of it as matches are fought
pub same-long : (k : Kept) (n : ℕ) (younger : Member) (row fought : List Bout) → IsAtMember k n younger row fought → length row ≡ length fought
same-long k n younger row fought at =
    row-long k.settings.rounds 0 n k.results row at.is.rows at.row_is
    ∙ sym (row-long k.settings.rounds 0 n (fought_from k.settings [] k.members) fought (AreRows-fought k.settings k.members) at.fought_is)

module _ (k : Kept) (p n : ℕ) (older younger : Member) (row fought : List Bout) (at : IsAtMember k n younger row fought) (older_is : slice_get k.members p ≡ Some older)
    (older_entry younger_entry : ℕ) (of_older : older_entry ≡ older.entry) (of_younger : younger_entry ≡ younger.entry) (first : IsFirstDifference row fought p) where
  abbrev matches : List (List Bout)
  matches = fought_from k.settings [] k.members

  older-place : place_of (entries_of k.members) older_entry ≡ Some p
  older-place = ap (place_of (entries_of k.members)) of_older ∙ place_of-at k.members p older at.is.hill.rising older_is

  younger-place : place_of (entries_of k.members) younger_entry ≡ Some n
  younger-place = ap (place_of (entries_of k.members)) of_younger ∙ place_of-at k.members n younger at.is.hill.rising at.member_is

  looked-up : (rows : List (List Bout)) (bouts : List Bout) (b : Bout) → slice_get rows n ≡ Some bouts → slice_get bouts p ≡ Some b →
      result_of (entries_of k.members) rows older_entry younger_entry ≡ Some b
  looked-up rows bouts b here is = ap₂ (λ (i j : Option ℕ). result_at rows i j) older-place younger-place ∙ ap (λ (r : Option (List Bout)). result_in r p) here ∙ is

  -- at the first difference, the kept result is not the match
  pub first-untrue : (d : Bout) → p < length row → p < length fought → IsUntrue k older_entry younger_entry (get_or row p d) (get_or fought p d)
  first-untrue d within beside = record {
    kept_is = looked-up k.results row (get_or row p d) at.row_is (slice_get-get_or row p d within);
    fought_is = looked-up matches fought (get_or fought p d) at.fought_is (slice_get-get_or fought p d beside);
    differ = λ same. first.differ (slice_get-get_or row p d within ∙ ap Some same ∙ sym (slice_get-get_or fought p d beside));
  }

  rows-same : (y j : ℕ) → y < younger_entry → take n k.results ≡ take n matches → place_of (entries_of k.members) y ≡ Some j → slice_get k.results j ≡ slice_get matches j
  rows-same y j less before there =
      let one = placed k.members y j younger there in
      slice_get-same k.results matches j n
      (places-rise 0 k.members j n (get_or k.members j younger) younger at.is.hill.rising one.0 at.member_is (omega (arith, less, one.1, of_younger))) before

  in_row-same : (o i : ℕ) → o < older_entry → place_of (entries_of k.members) o ≡ Some i → result_in (slice_get k.results n) i ≡ result_in (slice_get matches n) i
  in_row-same o i less there =
      let one = placed k.members o i older there in
      ap (λ (r : Option (List Bout)). result_in r i) at.row_is
      ∙ slice_get-same row fought i p (places-rise 0 k.members i p (get_or k.members i older) older at.is.hill.rising one.0 older_is (omega (arith, less, one.1, of_older))) first.before
      ∙ sym (ap (λ (r : Option (List Bout)). result_in r i) at.fought_is)

  -- and before it all are, if the rows so far are true
  pub first-before : take n k.results ≡ take n matches → AreTrueBefore k older_entry younger_entry
  first-before before = record {
    youngers = λ o y less. same-looked k.results matches (place_of (entries_of k.members) o) (place_of (entries_of k.members) y) (λ j there. rows-same y j less before there);
    olders = λ o less.
        ap (λ (j : Option ℕ). result_at k.results (place_of (entries_of k.members) o) j) younger-place
        ∙ same-in_row k.results matches (place_of (entries_of k.members) o) n (λ i there. in_row-same o i less there)
        ∙ sym (ap (λ (j : Option ℕ). result_at matches (place_of (entries_of k.members) o) j) younger-place);
  }

-- ---- what a hill has in its entrants

module _ (k : Kept) (s : RawSettings) (counter : ℕ) (es xs : List Entrant) (view : kept_of s counter (members_of es) (rows_of es) ≡ k) (same : xs ≡ es) where
  pub older-at : (p n : ℕ) (o : Entrant) (w : WarriorParts) (fought : List Bout) → p < length fought → fought ≡ matches_with s (members_of (take n xs)) w →
      o ≡ get_or xs p o → slice_get k.members p ≡ Some o.member
  older-at p n o w fought beside found here =
      let many : length fought ≡ length (take n xs) =
      ap length found ∙ length-map (members_of (take n xs)) (λ (m : Member). match_of s m.warrior w) ∙ length-map (take n xs) (λ (e : Entrant). e.member) in
      ap (λ (j : Kept). slice_get j.members p) (sym view)
      ∙ shown-at (λ (e : Entrant). e.member) es xs p o same (omega (arith, beside, many, length-take n xs)) here

  pub at-member : (n : ℕ) (e : Entrant) (w : WarriorParts) (row fought : List Bout) → IsKept (kept_of s counter (members_of es) (rows_of es)) →
      n < length xs → e ≡ get_or xs n e → w ≡ e.member.warrior → row ≡ e.bouts → fought ≡ matches_with s (members_of (take n xs)) w →
      IsAtMember k n e.member row fought
  at-member n e w row fought is within here warrior kept found =
      let members : slice_get (members_of es) n ≡ Some e.member = shown-at (λ (x : Entrant). x.member) es xs n e same within here in
      subst (λ (j : Kept). IsAtMember j n e.member row fought) view (record {
        is = is;
        member_is = members;
        row_is = shown-at (λ (x : Entrant). x.bouts) es xs n e same within here ∙ ap Some (sym kept);
        fought_is = fought_from-row s [] (members_of es) n e.member members
            ∙ ap (λ (ys : List Entrant). Some (matches_with s (take n (members_of ys)) e.member.warrior)) (sym same)
            ∙ ap₂ (λ (ms : List Member) (x : WarriorParts). Some (matches_with s ms x)) (take-map (λ (x : Entrant). x.member) n xs) (sym warrior)
            ∙ ap Some (sym found);
      })

  pub same-so_far : (n : ℕ) → take n (rows_of xs) ≡ take n (fought_from k.settings [] (members_of xs)) → take n k.results ≡ take n (fought_from k.settings [] k.members)
  same-so_far n before =
      ap (λ (j : Kept). take n j.results) (sym view) ∙ ap (λ (ys : List Entrant). take n (rows_of ys)) (sym same)
      ∙ before
      ∙ ap (λ (ys : List Entrant). take n (fought_from k.settings [] (members_of ys))) same ∙ ap (λ (j : Kept). take n (fought_from k.settings [] j.members)) view
