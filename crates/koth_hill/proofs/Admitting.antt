-- A challenger that was judged to stay is taken in.
use Rattle.std.proofs.Common.{◌≡◌, ℕ, ◌+◌, ◌<◌, ◌≤◌, true, List, [], ◌∷◌, ◌++◌, length, map, refl, sym, ap, ap₂, subst, ◌∙◌, arith, Option, None, Some, All}
use Rattle.{std.specs.Prelude.{IfSome, position}, std.proofs.{lemmas.Bool.cond-true, lemmas.List.{length-map, map-append}, lemmas.List.Elements.{All-head, All-tail, All-cons, All-nil}}}
use Rattle.{std.proofs.lemmas.List.Quantifiers.position-Some, war_types.specs.{declared.settings.RawSettings.RawSettings, Warrior.{WarriorParts, Fits}}}
use Rattle.{koth_match.specs.{declared.bout.Bout.Bout, Match.match_of}, koth_hill.specs.{declared.verdict.Verdict.Verdict, Hill.{Member, RiseFrom, member_of}, Laws.OthersStay}}
use Rattle.koth_hill.specs.Step.{challenger, is_entry, falling_by, stays_by, after_stay, without, one_older, step}
use Rattle.koth_hill.specs.Kept.{Kept, Entrant, AreTrue, IsKept, entrant_of, fallen_place, fresh, hill_in, kept_fall, kept_of, kept_stay, known, members_of, rows_left, rows_of, stayed}
use Rattle.koth_hill.specs.Kept.{step_kept, verdict_kept, without_place}
use Rattle.koth_hill.proofs.{Admitted.{IsHill-after_stay, ages-fit, without-most}, HillLaws.others-stay, Hills.few-members, Members.{older, removed-first, removed-none}, Places.position-map}
use Rattle.koth_hill.proofs.{RowsKept.IsKept-stay, Truths.{map-remove, still-true, true-step}, Verdicts.{judged-entry, judged-falls, verdict-bouts, verdict-stays}}

-- ---- what was judged

pub judged-bouts : (k : Kept) (w : WarriorParts) (judged : Verdict) → judged ≡ verdict_kept k w → judged.bouts ≡ fresh k w
judged-bouts k w judged is = ap (λ (v : Verdict). v.bouts) is ∙ verdict-bouts (known k w) (fresh k w) (hill_in k) w

pub judged-stays : (k : Kept) (w : WarriorParts) (judged : Verdict) → judged ≡ verdict_kept k w → judged.stays ≡ true → stays_by (known k w) (hill_in k) w ≡ true
judged-stays k w judged is stays = sym (verdict-stays (known k w) (fresh k w) (hill_in k) w) ∙ ap (λ (v : Verdict). v.stays) (sym is) ∙ stays

-- a challenger has few matches
pub few-fresh : (k : Kept) (w : WarriorParts) (judged : Verdict) (bouts : List Bout) → IsKept k → judged ≡ verdict_kept k w → bouts ≡ judged.bouts → length bouts ≤ 20
few-fresh k w judged bouts is judged_is same =
    let long : length bouts ≡ length (fresh k w) = ap length (same ∙ judged-bouts k w judged judged_is) in
    omega (arith, long, length-map k.members (λ (m : Member). match_of k.settings m.warrior w), few-members k is)

-- ---- places of entrants

-- the place among entrants is that among their members
pub place-members : (fallen : Option ℕ) (es : List Entrant) → position (λ e. is_entry e.member.entry fallen) es ≡ fallen_place fallen (members_of es)
place-members fallen es = sym (position-map (λ m. is_entry m.entry fallen) (λ (e : Entrant). e.member) es)

-- a place found among what is shown of these
pub place-shown : (fallen place : Option ℕ) (es shown : List Entrant) → place ≡ position (λ e. is_entry e.member.entry fallen) shown → shown ≡ es →
    place ≡ position (λ e. is_entry e.member.entry fallen) es
place-shown fallen place es shown found same = found ∙ ap (λ (xs : List Entrant). position (λ e. is_entry e.member.entry fallen) xs) same

-- a place that is found is one of these
pub place-within : (fallen place : Option ℕ) (es : List Entrant) → place ≡ position (λ e. is_entry e.member.entry fallen) es → IfSome place (λ i. i < length es)
place-within fallen None es found = tt
place-within fallen (Some i) [] found = cc
place-within fallen (Some i) (e ∷ es) found = (position-Some (λ x. is_entry x.member.entry fallen) (e ∷ es) i e (sym found)).0

-- the members of those that are left
pub members-left : (fallen place : Option ℕ) (before : ℕ) (es : List Entrant) → RiseFrom before (members_of es) → place ≡ position (λ e. is_entry e.member.entry fallen) es →
    members_of (without_place place es) ≡ without fallen (members_of es)
members-left fallen None before es rising found = removed-none fallen (members_of es) (sym (found ∙ place-members fallen es))
members-left fallen (Some i) before [] rising found = cc
members-left fallen (Some i) before (e ∷ es) rising found =
    map-remove (λ (x : Entrant). x.member) (e ∷ es) i
    ∙ removed-first fallen before (members_of (e ∷ es)) i e.member rising (sym (found ∙ place-members fallen (e ∷ es)))

-- and their rows
pub rows-without : (place : Option ℕ) (es : List Entrant) → rows_of (without_place place es) ≡ without_place place (rows_of es)
rows-without None es = refl
rows-without (Some i) es = map-remove (λ (x : Entrant). x.bouts) es i

-- ---- those that stay

pub members-stayed : (place : Option ℕ) (es : List Entrant) → members_of (map (stayed place) es) ≡ one_older (members_of es)
members-stayed place [] = refl
members-stayed place (e ∷ es) = ap (λ (ms : List Member). older e.member ∷ ms) (members-stayed place es)

pub rows-stayed : (place : Option ℕ) (es : List Entrant) → rows_of (map (stayed place) es) ≡ map (λ row. without_place place row) (rows_of es)
rows-stayed place [] = refl
rows-stayed place (e ∷ es) = ap (λ (rows : List (List Bout)). without_place place e.bouts ∷ rows) (rows-stayed place es)

All-members : (P : Member → Type 0) (es : List Entrant) → All P (members_of es) → All (λ e. P e.member) es
All-members P [] all = All-nil (λ (e : Entrant). P e.member)
All-members P (e ∷ es) all =
    All-cons (λ (x : Entrant). P x.member) e es (All-head P e.member (members_of es) all) (All-members P es (All-tail P e.member (members_of es) all))

-- ---- a challenger that was judged to stay

-- what is due of the hill on which it is taken in
pub record IsTakenIn (after now : Kept) (w : WarriorParts) : Type 0 where
  pub kept : after ≡ step_kept now w
  pub is : IsKept after
  pub step : AreTrue now → (hill_in after ≡ step (hill_in now) w) × AreTrue after
  pub others : AreTrue now → OthersStay (hill_in now) w (hill_in after)

-- a challenger that was judged to stay, on a hill of these entrants
module _ (s : RawSettings) (counter : ℕ) (es : List Entrant) (now : Kept) (w : WarriorParts) (judged : Verdict) (place : Option ℕ)
    (same : kept_of s counter (members_of es) (rows_of es) ≡ now) (is : IsKept (kept_of s counter (members_of es) (rows_of es)))
    (judged_is : judged ≡ verdict_kept now w) (stays : judged.stays ≡ true) (found : place ≡ position (λ e. is_entry e.member.entry judged.falls) es) where
  abbrev seen : Kept
  seen = kept_of s counter (members_of es) (rows_of es)

  abbrev falls : Option ℕ
  falls = falling_by (known seen w) (hill_in seen) w

  judged-seen : judged ≡ verdict_kept seen w
  judged-seen = judged_is ∙ ap (λ (k : Kept). verdict_kept k w) (sym same)

  stays-seen : stays_by (known seen w) (hill_in seen) w ≡ true
  stays-seen = judged-stays seen w judged judged-seen stays

  pub entry-seen : judged.entry ≡ counter + 1
  entry-seen = judged-entry (known seen w) (fresh seen w) (hill_in seen) w judged judged-seen

  falls-seen : judged.falls ≡ falls
  falls-seen = judged-falls (known seen w) (fresh seen w) (hill_in seen) w judged judged-seen

  left-seen : members_of (without_place place es) ≡ without judged.falls (members_of es)
  left-seen = members-left judged.falls place 0 es is.hill.rising found

  -- those that are left are no more than the hill holds
  pub few-left : length (without_place place es) ≤ s.capacity
  few-left =
      omega (arith, length-map (without_place place es) (λ (e : Entrant). e.member), ap length left-seen, without-most judged.falls (members_of es), is.hill.room)

  pub ages-left : (limit : ℕ) → counter + 1 < limit → All (λ e. e.member.age + 1 < limit) (without_place place es)
  ages-left limit fits =
      let P : List Member → Type 0 = λ ms. All (λ m. m.age + 1 < limit) ms in
      All-members (λ m. m.age + 1 < limit) (without_place place es) (subst P (sym left-seen) (ages-fit (hill_in seen) judged.falls limit is.hill fits))

  -- the hill on which it is taken in
  module _ (items : List Entrant) (bouts : List Bout) (e : Entrant) (made : e ≡ entrant_of (member_of judged.entry 0 w) bouts) (forgot : bouts ≡ without_place place judged.bouts)
      (are : items ≡ map (stayed place) (without_place place es) ++ e ∷ []) where
    abbrev own : Entrant
    own = entrant_of (challenger (hill_in seen) w) (without_place place (fresh seen w))

    own-is : e ≡ own
    own-is =
        made
        ∙ ap₂ (λ (n : ℕ) (row : List Bout). entrant_of (member_of n 0 w) row) entry-seen (forgot ∙ ap (λ (row : List Bout). without_place place row) (judged-bouts seen w judged judged-seen))

    items-are : items ≡ map (stayed place) (without_place place es) ++ own ∷ []
    items-are = are ∙ ap (λ (x : Entrant). map (stayed place) (without_place place es) ++ x ∷ []) own-is

    place-is : place ≡ fallen_place judged.falls (members_of es)
    place-is = found ∙ place-members judged.falls es

    members-are : members_of items ≡ (after_stay (hill_in seen) w judged.falls).members
    members-are =
        ap members_of items-are
        ∙ map-append (λ (x : Entrant). x.member) (map (stayed place) (without_place place es)) (own ∷ [])
        ∙ ap (λ (ms : List Member). ms ++ challenger (hill_in seen) w ∷ []) (members-stayed place (without_place place es) ∙ ap one_older left-seen)

    rows-are : rows_of items ≡ rows_left place (rows_of es) ++ without_place place (fresh seen w) ∷ []
    rows-are =
        ap rows_of items-are
        ∙ map-append (λ (x : Entrant). x.bouts) (map (stayed place) (without_place place es)) (own ∷ [])
        ∙ ap (λ (rows : List (List Bout)). rows ++ without_place place (fresh seen w) ∷ [])
        (rows-stayed place (without_place place es) ∙ ap (λ (rows : List (List Bout)). map (λ row. without_place place row) rows) (rows-without place es))

    stay-is : kept_of s judged.entry (members_of items) (rows_of items) ≡ kept_stay seen w falls
    stay-is =
        ap (λ (n : ℕ). kept_of s n (members_of items) (rows_of items)) entry-seen
        ∙ ap₂ (λ (ms : List Member) (rows : List (List Bout)). kept_of s (counter + 1) ms rows) members-are
        (rows-are ∙ ap (λ (p : Option ℕ). rows_left p (rows_of es) ++ without_place p (fresh seen w) ∷ []) place-is)
        ∙ ap (λ (fallen : Option ℕ). kept_stay seen w fallen) falls-seen

    abbrev after : Kept
    after = kept_of s judged.entry (members_of items) (rows_of items)

    kept-after : after ≡ step_kept now w
    kept-after =
        stay-is
        ∙ sym (cond-true (stays_by (known seen w) (hill_in seen) w) (kept_stay seen w falls) (kept_fall seen) stays-seen)
        ∙ ap (λ (k : Kept). step_kept k w) same

    is-after : Fits now.settings w → IsKept after
    is-after fits =
        let P : Kept → Type 0 = IsKept in
        let Q : Kept → Type 0 = λ k. Fits k.settings w in
        subst P (sym stay-is) (IsKept-stay seen w falls is (IsHill-after_stay (known seen w) (hill_in seen) w is.hill (subst Q (sym same) fits) stays-seen))

    is-now : IsKept now
    is-now = let P : Kept → Type 0 = IsKept in subst P same is

    step-after : AreTrue now → hill_in after ≡ step (hill_in now) w
    step-after holds = ap hill_in kept-after ∙ true-step now w is-now holds

    true-after : AreTrue now → AreTrue after
    true-after holds = let P : Kept → Type 0 = AreTrue in subst P (sym kept-after) (still-true now w is-now holds)

    pub taken-in : Fits now.settings w → IsTakenIn after now w
    taken-in fits = record {
      kept = kept-after;
      is = is-after fits;
      step = λ holds. (step-after holds, true-after holds);
      others = λ holds. others-stay (hill_in now) w (hill_in after) (step-after holds);
    }
