-- What the functions of a hill ask of one another, and what they show.
use Rattle.std.proofs.Common.{◌≡◌, ℕ, ◌+◌, ◌-◌, ◌<◌, ◌≤◌, Result, Ok, Err, true, false, All, List, [], ◌∷◌, ◌++◌, length, map, refl, sym, ap, ap₂, subst, ◌∙◌, arith, Option}
use Rattle.{std.specs.{Prelude.if◌then◌else◌, Result.is_ok}, std.proofs.{lemmas.Bool.cond-false, lemmas.List.{length-map, length_push, map-append}}}
use Rattle.{std.proofs.lemmas.List.Elements.{All-weaker, All-cons, All-nil, All-push}, war_types.specs.{declared.settings.RawSettings.RawSettings, Settings.AreSettings, Warrior.{WarriorParts, Fits}}}
use Rattle.{koth_match.specs.{declared.bout.Bout.Bout, Match.rounds_in}, koth_hill.specs.{declared.standings.Standing.Standing, declared.verdict.Verdict.Verdict}}
use Rattle.koth_hill.specs.{Hill.{Member, Hill, AllFit, MayStand, IsHill, member_of, last_entry}, Step.{challenger, enlarged, falling_by, stays_by}}
use Rattle.koth_hill.specs.Kept.{Kept, Entrant, AreRows, IsKept, entrant_of, entries_of, hill_in, kept_of, members_of, rows_of, fresh, known, kept_fall, kept_stay, result_of, step_kept, verdict_kept}
use Rattle.koth_hill.specs.Standings.{StandingParts, AreApart, AreStandings, HaveRounds, IsLast, entry_at, judged_among, kept_in, entries_in, rows_in, result_in_standings, standing_of, standing_parts}
use Rattle.koth_hill.proofs.{Admitted.enlarged-rising, Looked.entries-apart, Members.IsHill-put_back, ByEntry.{kept_among, entries-entrants, rows-entrants}, Judged.{judged_in, judged-found}, RowsKept.{AreRows-push, matches-rounds}}
use Rattle.koth_hill.proofs.Verdicts.{verdict-stays}

-- ---- those on a hill fit, are few, and have the rounds of the settings

pub all-fit : (h : Hill) → IsHill h → AllFit h.settings h.members
all-fit h is = All-weaker (MayStand h.settings h.counter) (λ m. Fits h.settings m.warrior) (λ m may. may.fits) h.members is.members

pub few-members : (k : Kept) → IsKept k → length k.members ≤ 20
few-members k is = omega (arith, is.hill.room, is.hill.settings.capacity_most)

pub few-entrants : (k : Kept) (es : List Entrant) → members_of es ≡ k.members → IsKept k → length es ≤ 20
few-entrants k es same is = omega (arith, length-map es (λ (e : Entrant). e.member), ap length same, few-members k is)

weaker-rows : (rounds n : ℕ) (rows : List (List Bout)) → rounds ≤ 1000 → AreRows rounds n rows → All (λ row. All (λ b. rounds_in b ≤ 1000) row) rows
weaker-rows rounds n [] most are = All-nil (λ row. All (λ b. rounds_in b ≤ 1000) row)
weaker-rows rounds n (row ∷ rows) most are =
    All-cons (λ x. All (λ b. rounds_in b ≤ 1000) x) row rows
    (All-weaker (λ b. rounds_in b ≡ rounds) (λ b. rounds_in b ≤ 1000) (λ b same. omega (arith, same, most)) row are.1)
    (weaker-rows rounds (n + 1) rows most are.2)

pub rounds-kept : (k : Kept) → IsKept k → All (λ row. All (λ b. rounds_in b ≤ 1000) row) k.results
rounds-kept k is = weaker-rows k.settings.rounds 0 k.results is.hill.settings.rounds_most is.rows

-- ---- a challenger

-- what is found of those on the hill and the challenger is the verdict by what is known
pub judged-kept : (k : Kept) (es : List Entrant) (ss : List Standing) (own : StandingParts) (w : WarriorParts) (capacity : ℕ) →
    members_of es ≡ k.members → rows_of es ≡ k.results → own ≡ record { entry = k.counter + 1; bouts = fresh k w } → capacity ≡ k.settings.capacity →
    map standing_parts ss ≡ map standing_of es ++ own ∷ [] →
    judged_among (map standing_parts ss) capacity own ≡ verdict_kept k w
judged-kept k es ss own w capacity members rows is most are =
    ap (λ (xs : List StandingParts). judged_in (kept_in xs) (entries_in xs) (length xs) capacity own) (are ∙ ap (λ (x : StandingParts). map standing_of es ++ x ∷ []) is)
    ∙ ap₂ (λ (x : StandingParts) (n : ℕ). judged_in (kept_in all) (entries_in all) (length all) n x) is most
    ∙ ap₂ (λ (xs : List ℕ) (ys : List (List Bout)). judged_in (kept_among xs ys) xs (length all) k.settings.capacity mine) entries-all rows-all
    ∙ ap (λ (n : ℕ). judged_in found (entries_of (enlarged h w)) n k.settings.capacity mine) count
    ∙ judged-found found (fresh k w) h w
  where
    h : Hill
    h = hill_in k

    mine : StandingParts
    mine = record { entry = k.counter + 1; bouts = fresh k w }

    all : List StandingParts
    all = map standing_of es ++ mine ∷ []

    found : ℕ → ℕ → Bout
    found = kept_among (entries_of (enlarged h w)) (k.results ++ fresh k w ∷ [])

    entries-all : entries_in all ≡ entries_of (enlarged h w)
    entries-all =
        map-append (λ (s : StandingParts). s.entry) (map standing_of es) (mine ∷ [])
        ∙ ap (λ (xs : List ℕ). xs ++ (k.counter + 1) ∷ []) (entries-entrants es ∙ ap entries_of members)
        ∙ sym (map-append (λ (m : Member). m.entry) k.members (challenger h w ∷ []))

    rows-all : rows_in all ≡ k.results ++ fresh k w ∷ []
    rows-all =
        map-append (λ (s : StandingParts). s.bouts) (map standing_of es) (mine ∷ [])
        ∙ ap (λ (xs : List (List Bout)). xs ++ fresh k w ∷ []) (rows-entrants es ∙ rows)

    count : length all ≡ length (enlarged h w)
    count = sym (length-map all (λ (s : StandingParts). s.entry)) ∙ ap length entries-all ∙ length-map (enlarged h w) (λ (m : Member). m.entry)

-- a challenger's matches, and those on the hill, have no more rounds than are counted
rounds-judged : (k : Kept) (es : List Entrant) (ss : List Standing) (own : StandingParts) (w : WarriorParts) → IsKept k → rows_of es ≡ k.results → own.bouts ≡ fresh k w →
    map standing_parts ss ≡ map standing_of es ++ own ∷ [] → HaveRounds (map standing_parts ss)
rounds-judged k es ss own w is rows matches are =
    let P : List (List Bout) → Type 0 = λ xs. All (λ row. All (λ b. rounds_in b ≤ 1000) row) xs in
    let own-rounds : All (λ b. rounds_in b ≤ 1000) (fresh k w) =
    All-weaker (λ b. rounds_in b ≡ k.settings.rounds) (λ b. rounds_in b ≤ 1000) (λ b same. omega (arith, same, is.hill.settings.rounds_most)) (fresh k w) (matches-rounds k.settings k.members w) in
    subst P
    (sym (ap (map (λ (s : StandingParts). s.bouts)) are ∙ map-append (λ (s : StandingParts). s.bouts) (map standing_of es) (own ∷ [])
    ∙ ap₂ (λ (xs : List (List Bout)) (row : List Bout). xs ++ row ∷ []) (rows-entrants es ∙ rows) matches))
    (All-push (λ row. All (λ b. rounds_in b ≤ 1000) row) k.results (fresh k w) (rounds-kept k is) own-rounds)

pub standings-judged : (k : Kept) (es : List Entrant) (ss : List Standing) (own : StandingParts) (w : WarriorParts) → IsKept k → members_of es ≡ k.members → rows_of es ≡ k.results →
    own.entry ≡ k.counter + 1 → own.bouts ≡ fresh k w → map standing_parts ss ≡ map standing_of es ++ own ∷ [] → AreStandings (map standing_parts ss)
standings-judged k es ss own w is members rows entry matches are = record {
  rounds = rounds-judged k es ss own w is rows matches are;
  apart = subst AreApart (sym all) (entries-apart (enlarged (hill_in k) w) (enlarged-rising (hill_in k) w is.hill));
}
  where
    all : entries_in (map standing_parts ss) ≡ entries_of (enlarged (hill_in k) w)
    all =
        ap entries_in are ∙ map-append (λ (s : StandingParts). s.entry) (map standing_of es) (own ∷ [])
        ∙ ap₂ (λ (xs : List ℕ) (e : ℕ). xs ++ e ∷ []) (entries-entrants es ∙ ap entries_of members) entry
        ∙ sym (map-append (λ (m : Member). m.entry) k.members (challenger (hill_in k) w ∷ []))

pub last-judged : (ss : List Standing) (xs : List StandingParts) (own : StandingParts) → map standing_parts ss ≡ xs ++ own ∷ [] → IsLast ss own.entry
last-judged ss xs own are = record {
  some = omega (arith, count);
  is = ap₂ entry_at are (omega (arith, count)) ∙ pushed xs;
}
  where
    count : length ss ≡ length xs + 1
    count = sym (length-map ss standing_parts) ∙ ap length are ∙ length_push xs own

    pushed : (ys : List StandingParts) → entry_at (ys ++ own ∷ []) (length ys) ≡ own.entry
    pushed [] = refl
    pushed (y ∷ ys) = pushed ys

-- ---- what is kept of two

pub bout-kept : (seen now : Kept) (es : List Entrant) (ss : List Standing) (older younger : ℕ) (found : Option Bout) → seen ≡ now → members_of es ≡ seen.members → rows_of es ≡ seen.results →
    map standing_parts ss ≡ map standing_of es → found ≡ result_in_standings (map standing_parts ss) older younger → found ≡ result_of (entries_of now.members) now.results older younger
bout-kept seen now es ss older younger found same members rows are is =
    is ∙ ap (λ (xs : List StandingParts). result_of (entries_in xs) (rows_in xs) older younger) are
    ∙ ap₂ (λ (xs : List ℕ) (ys : List (List Bout)). result_of xs ys older younger) (entries-entrants es ∙ ap entries_of members) (rows-entrants es ∙ rows)
    ∙ ap (λ (k : Kept). result_of (entries_of k.members) k.results older younger) same

-- ---- a table

rounds-members : (k : Kept) (es : List Entrant) → IsKept k → rows_of es ≡ k.results → HaveRounds (map standing_of es)
rounds-members k es is rows =
    let P : List (List Bout) → Type 0 = λ xs. All (λ row. All (λ b. rounds_in b ≤ 1000) row) xs in
    subst P (sym (rows-entrants es ∙ rows)) (rounds-kept k is)

pub standings-members : (k : Kept) (es : List Entrant) → IsKept k → members_of es ≡ k.members → rows_of es ≡ k.results → AreStandings (map standing_of es)
standings-members k es is members rows = record {
  rounds = rounds-members k es is rows;
  apart = subst AreApart (sym (entries-entrants es ∙ ap entries_of members)) (entries-apart k.members is.hill.rising);
}

-- ---- none on the hill

pub IsKept-none : (s : RawSettings) (counter : ℕ) (es : List Entrant) → AreSettings s → es ≡ [] → IsKept (kept_of s counter (members_of es) (rows_of es))
IsKept-none s counter es are none =
    let P : List Entrant → Type 0 = λ xs. IsKept (kept_of s counter (members_of xs) (rows_of xs)) in
    subst P (sym none) (record {
      hill = record { settings = are; room = omega arith; rising = tt; members = All-nil (MayStand s counter) };
      each = refl;
      rows = tt;
    })

-- ---- one more on the hill

-- the warrior after those on the hill, with the results of its matches with them
pub IsKept-put_back : (k : Kept) (entry age : ℕ) (w : WarriorParts) (bouts : List Bout) → IsKept k → length k.members < k.settings.capacity → last_entry k.members < entry →
    entry ≤ k.counter → age ≤ k.counter - entry → Fits k.settings w → length bouts ≡ length k.members → All (λ b. rounds_in b ≡ k.settings.rounds) bouts →
    IsKept (kept_of k.settings k.counter (k.members ++ member_of entry age w ∷ []) (k.results ++ bouts ∷ []))
IsKept-put_back k entry age w bouts is room above counted old fits each rounds = record {
  hill = IsHill-put_back (hill_in k) (member_of entry age w) is.hill room above counted old fits;
  each = length_push k.results bouts ∙ ap (λ (n : ℕ). n + 1) is.each ∙ sym (length_push k.members (member_of entry age w));
  rows = AreRows-push k.settings.rounds k.results bouts is.rows (each ∙ sym is.each) rounds;
}

-- the hill's value after the push
pub put_back-is : (seen now : Kept) (es items : List Entrant) (e : Entrant) (entry age : ℕ) (w : WarriorParts) (bouts : List Bout) → seen ≡ now → members_of es ≡ seen.members → rows_of es ≡ seen.results →
    e ≡ entrant_of (member_of entry age w) bouts → items ≡ es ++ e ∷ [] →
    kept_of seen.settings seen.counter (members_of items) (rows_of items) ≡ kept_of now.settings now.counter (now.members ++ member_of entry age w ∷ []) (now.results ++ bouts ∷ [])
put_back-is seen now es items e entry age w bouts same members rows made pushed =
    ap₂ (λ (ms : List Member) (xs : List (List Bout)). kept_of seen.settings seen.counter ms xs)
    (ap members_of all ∙ map-append (λ (x : Entrant). x.member) es (mine ∷ []) ∙ ap (λ (ms : List Member). ms ++ member_of entry age w ∷ []) members)
    (ap rows_of all ∙ map-append (λ (x : Entrant). x.bouts) es (mine ∷ []) ∙ ap (λ (xs : List (List Bout)). xs ++ bouts ∷ []) rows)
    ∙ ap (λ (k : Kept). kept_of k.settings k.counter (k.members ++ member_of entry age w ∷ []) (k.results ++ bouts ∷ [])) same
  where
    mine : Entrant
    mine = entrant_of (member_of entry age w) bouts

    all : items ≡ es ++ mine ∷ []
    all = pushed ∙ ap (λ (x : Entrant). es ++ x ∷ []) made

-- ---- a challenger that falls

pub passed-kept : (seen now : Kept) (w : WarriorParts) (judged : Verdict) → seen ≡ now → judged.entry ≡ now.counter + 1 → judged.stays ≡ false → judged ≡ verdict_kept now w →
    kept_of seen.settings judged.entry seen.members seen.results ≡ step_kept now w
passed-kept seen now w judged same entry falls is =
    ap (λ (k : Kept). kept_of k.settings judged.entry k.members k.results) same
    ∙ ap (λ (n : ℕ). kept_of now.settings n now.members now.results) entry
    ∙ sym (cond-false (stays_by (known now w) (hill_in now) w) (kept_stay now w (falling_by (known now w) (hill_in now) w)) (kept_fall now)
    (sym (verdict-stays (known now w) (fresh now w) (hill_in now) w) ∙ ap (λ (v : Verdict). v.stays) (sym is) ∙ falls))

pub pushed-entrant : {T E : Type 0} (r : Result T E) (old new items : List Entrant) → is_ok r ≡ true → items ≡ (if is_ok r then new else old) → items ≡ new
pushed-entrant (Ok x) old new items ok is = is
pushed-entrant (Err e) old new items ok is = cc

-- there is room in the memory for one more
pub room-left_for : (k : Kept) (es : List Entrant) (len capacity : ℕ) → IsKept k → members_of es ≡ k.members → len ≡ length es → k.settings.capacity + 1 ≤ capacity → len < capacity
room-left_for k es len capacity is same count most = omega (arith, count, length-map es (λ (e : Entrant). e.member), ap length same, is.hill.room, most)
