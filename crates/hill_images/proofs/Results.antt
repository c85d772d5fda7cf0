-- The results that are read of the warriors on a hill, while sectors are written: for `place` and what it leaves.
use Rattle.std.proofs.Common.{◌≡◌, ℕ, zero, suc, ◌+◌, ◌-◌, ◌<◌, ◌≤◌, Bool, true, false, cond, List, [], ◌∷◌, ◌++◌, length, map, remove, replicate, set, get_or, All, Option, None, Some, refl}
use Rattle.{std.proofs.Common.{sym, ap, ap₂, subst, ◌∙◌, arith}, std.specs.{Prelude.{position, nat_lt}, List.position_or_len}}
use Rattle.std.proofs.{lemmas.Bool.{cond-true, cond-false, ne_eqb, eqb-true, ltb-false}, lemmas.List.{map-append, map-id, length-map, get_or-set_same, get_or-set_other, length-set}}
use Rattle.std.proofs.{lemmas.List.Elements.{All-nil, All-cons, All-head, All-tail, All-set, All-replicate}, lemmas.List.Quantifiers.position-Some, lemmas.List.Sums.fails_before_first}
use Rattle.{koth_match.specs.{declared.bout.Bout.Bout, Match.rounds_in}, koth_hill.specs.{Hill.Member, Step.is_entry, Kept.{fallen_place, without_place, rows_left, rows_with}}}
use Rattle.{koth_hill.proofs.{Places.position-map, Truths.{map-remove, rows_with-push, rows_with-left, rows_with-same}}, sector_disk.specs.Image.put}
use Rattle.hill_bytes.specs.{declared.header.HeaderEntry.HeaderEntry, declared.wins.Wins.Wins, Layout.{EntriesRise, SlotIsFree, SlotsDiffer, FitRounds, Layout, results_in, slot_in}}
use Rattle.hill_images.specs.{Stands.{no_wins, bout_of, result_read, slots_of, results_read}, Named.Agree, Places.{wins_of, results_onto, results_by_slot, kept_entries}}
use Rattle.hill_images.proofs.{Sectors.slot-elsewhere, Held.Apart}

-- ---- sectors

-- these warriors' slots are the same in both images
abbrev pub AreSame : Layout → (ℕ → List ℕ) → (ℕ → List ℕ) → List HeaderEntry → Type 0
AreSame layout image other es = All (λ slot. slot_in layout other slot ≡ slot_in layout image slot) (slots_of es)

pub results-same : (layout : Layout) (rounds : ℕ) (image other : ℕ → List ℕ) (es : List HeaderEntry) → AreSame layout image other es → results_read layout rounds other es ≡ results_read layout rounds image es
results-same layout rounds image other es same = rows_with-same (result_read layout rounds other) (result_read layout rounds image) [] (slots_of es) (each (slots_of es) same)
  where
    each : (slots : List ℕ) → All (λ slot. slot_in layout other slot ≡ slot_in layout image slot) slots → All (λ slot. (older : ℕ) → result_read layout rounds other older slot ≡ result_read layout rounds image older slot) slots
    each [] same = All-nil (λ slot. (older : ℕ) → result_read layout rounds other older slot ≡ result_read layout rounds image older slot)
    each (slot ∷ slots) same =
        All-cons (λ k. (older : ℕ) → result_read layout rounds other older k ≡ result_read layout rounds image older k) slot slots
        (λ older. ap (λ sectors. bout_of rounds (get_or (results_in layout sectors) older no_wins)) (All-head (λ k. slot_in layout other k ≡ slot_in layout image k) slot slots same))
        (each slots (All-tail (λ k. slot_in layout other k ≡ slot_in layout image k) slot slots same))

pub same_elsewhere : (layout : Layout) (image : ℕ → List ℕ) (n : ℕ) (content : List ℕ) (es : List HeaderEntry) → Apart layout n es → AreSame layout image (put n content image) es
same_elsewhere layout image n content [] apart = All-nil (λ slot. slot_in layout (put n content image) slot ≡ slot_in layout image slot)
same_elsewhere layout image n content (e ∷ es) apart =
    All-cons (λ slot. slot_in layout (put n content image) slot ≡ slot_in layout image slot) e.slot (slots_of es)
    (slot-elsewhere layout image n content e.slot apart.0) (same_elsewhere layout image n content es apart.1)

-- a write elsewhere leaves the results
pub results-elsewhere : (layout : Layout) (rounds : ℕ) (image : ℕ → List ℕ) (n : ℕ) (content : List ℕ) (es : List HeaderEntry) → Apart layout n es → results_read layout rounds (put n content image) es ≡ results_read layout rounds image es
results-elsewhere layout rounds image n content es apart = results-same layout rounds image (put n content image) es (same_elsewhere layout image n content es apart)

-- ---- slots of those that stay

kept_other : (fallen : Option ℕ) (e : HeaderEntry) (es : List HeaderEntry) → is_entry e.entry fallen ≡ false → slots_of (kept_entries fallen (e ∷ es)) ≡ e.slot ∷ slots_of (kept_entries fallen es)
kept_other fallen e es other =
    ap slots_of (cond-false (is_entry e.entry fallen) (kept_entries fallen es) (record { entry = e.entry; slot = e.slot; age = e.age + 1 } ∷ kept_entries fallen es) other)

kept_this : (fallen : Option ℕ) (e : HeaderEntry) (es : List HeaderEntry) → is_entry e.entry fallen ≡ true → slots_of (kept_entries fallen (e ∷ es)) ≡ slots_of (kept_entries fallen es)
kept_this fallen e es this =
    ap slots_of (cond-true (is_entry e.entry fallen) (kept_entries fallen es) (record { entry = e.entry; slot = e.slot; age = e.age + 1 } ∷ kept_entries fallen es) this)

-- none falls of those after the one that does
kept_behind : (fallen before : ℕ) (es : List HeaderEntry) → fallen ≤ before → EntriesRise before es → slots_of (kept_entries (Some fallen) es) ≡ slots_of es
kept_behind fallen before [] past rising = refl
kept_behind fallen before (e ∷ es) past rising =
    kept_other (Some fallen) e es (ne_eqb e.entry fallen (λ same. omega (arith, same, rising.0, past)))
    ∙ ap (λ slots. e.slot ∷ slots) (kept_behind fallen e.entry es (omega (arith, rising.0, past)) rising.1)

kept_none : (fallen : Option ℕ) (es : List HeaderEntry) → ((k : ℕ) (d : HeaderEntry) → k < length es → is_entry (get_or es k d).entry fallen ≡ false) → slots_of (kept_entries fallen es) ≡ slots_of es
kept_none fallen [] none = refl
kept_none fallen (e ∷ es) none =
    kept_other fallen e es (none 0 e (omega arith)) ∙ ap (λ slots. e.slot ∷ slots) (kept_none fallen es (λ k d within. none (suc k) d (omega (arith, within))))

entry_same : (a b : ℕ) → is_entry a (Some b) ≡ true → a ≡ b
entry_same a b is = eqb-true a b is

kept_at : (fallen : Option ℕ) (before : ℕ) (es : List HeaderEntry) (i : ℕ) (d : HeaderEntry) → EntriesRise before es → i < length es → is_entry (get_or es i d).entry fallen ≡ true
    → ((k : ℕ) → k < i → is_entry (get_or es k d).entry fallen ≡ false) → slots_of (kept_entries fallen es) ≡ remove (slots_of es) i
kept_at None before es i d rising within here others = let no : false ≡ true = here in cc
kept_at (Some fallen) before [] i d rising within here others = absurd (omega (arith, within))
kept_at (Some fallen) before (e ∷ es) zero d rising within here others =
    kept_this (Some fallen) e es here
    ∙ kept_behind fallen e.entry es (let same : e.entry ≡ fallen = entry_same e.entry fallen here in omega (arith, same)) rising.1
kept_at (Some fallen) before (e ∷ es) (suc i) d rising within here others =
    kept_other (Some fallen) e es (others 0 (omega arith))
    ∙ ap (λ slots. e.slot ∷ slots) (kept_at (Some fallen) e.entry es i d rising.1 (omega (arith, within)) here (λ k below. others (suc k) (omega (arith, below))))

no_some : (b : Bool) (n : ℕ) → cond b (Some n) None ≡ None → b ≡ false
no_some true n none = cc
no_some false n none = refl

none_past : (p : HeaderEntry → Bool) (es : List HeaderEntry) → position p es ≡ None → length es ≤ position_or_len p es
none_past p es none = ltb-false (position_or_len p es) (length es) (no_some (nat_lt (position_or_len p es) (length es)) (position_or_len p es) none)

-- the slots of those that stay are those without the one at the fallen's place
slots-left : (fallen place : Option ℕ) (es : List HeaderEntry) → EntriesRise 0 es → position (λ e. is_entry e.entry fallen) es ≡ place → slots_of (kept_entries fallen es) ≡ without_place place (slots_of es)
slots-left fallen None es rising found =
    kept_none fallen es (λ k d within. fails_before_first (λ e. is_entry e.entry fallen) es k d (omega (arith, within, none_past (λ e. is_entry e.entry fallen) es found)))
slots-left fallen (Some i) [] rising found = cc
slots-left fallen (Some i) (e ∷ es) rising found =
    let first = position-Some (λ x. is_entry x.entry fallen) (e ∷ es) i e found in
    kept_at fallen 0 (e ∷ es) i e rising first.0 first.1 first.2

-- a place among entries is that among the members that agree with them
agree_entries : (es : List HeaderEntry) (ms : List Member) → Agree es ms → map (λ (m : Member). m.entry) ms ≡ map (λ (e : HeaderEntry). e.entry) es
agree_entries [] [] agree = refl
agree_entries [] (m ∷ ms) agree = absurd agree
agree_entries (e ∷ es) [] agree = absurd agree
agree_entries (e ∷ es) (m ∷ ms) agree = ap₂ (λ (n : ℕ) (ns : List ℕ). n ∷ ns) agree.0 (agree_entries es ms agree.2)

pub place-agrees : (fallen : Option ℕ) (es : List HeaderEntry) (ms : List Member) → Agree es ms → position (λ e. is_entry e.entry fallen) es ≡ fallen_place fallen ms
place-agrees fallen es ms agree =
    sym (position-map (λ n. is_entry n fallen) (λ (e : HeaderEntry). e.entry) es)
    ∙ ap (position (λ n. is_entry n fallen)) (sym (agree_entries es ms agree))
    ∙ position-map (λ n. is_entry n fallen) (λ (m : Member). m.entry) ms

-- ---- rows

rows-without : (f : ℕ → ℕ → Bout) (slots : List ℕ) (place : Option ℕ) → ((i : ℕ) → place ≡ Some i → i < length slots) → rows_with f [] (without_place place slots) ≡ rows_left place (rows_with f [] slots)
rows-without f slots None within = sym (map-id (rows_with f [] slots))
rows-without f slots (Some i) within = rows_with-left f slots i (within i refl)

row-without : (f : ℕ → Bout) (slots : List ℕ) (place : Option ℕ) → map f (without_place place slots) ≡ without_place place (map f slots)
row-without f slots None = refl
row-without f slots (Some i) = map-remove f slots i

place_within : (fallen : Option ℕ) (es : List HeaderEntry) (i : ℕ) → position (λ e. is_entry e.entry fallen) es ≡ Some i → i < length es
place_within fallen [] i found = cc
place_within fallen (e ∷ es) i found = (position-Some (λ x. is_entry x.entry fallen) (e ∷ es) i e found).0

-- a warrior that stays, in a slot of its own: the rows of those that stay, each without the fallen, and its own
pub results-placed : (layout : Layout) (rounds : ℕ) (image : ℕ → List ℕ) (fallen place : Option ℕ) (es : List HeaderEntry) (new : HeaderEntry) → EntriesRise 0 es → position (λ e. is_entry e.entry fallen) es ≡ place
    → results_read layout rounds image (kept_entries fallen es ++ new ∷ [])
    ≡ rows_left place (results_read layout rounds image es) ++ without_place place (map (λ older. result_read layout rounds image older new.slot) (slots_of es)) ∷ []
results-placed layout rounds image fallen place es new rising found =
    ap (rows_with f []) (map-append (λ (e : HeaderEntry). e.slot) (kept_entries fallen es) (new ∷ []) ∙ ap (λ slots. slots ++ new.slot ∷ []) left)
    ∙ rows_with-push f (without_place place (slots_of es)) new.slot
    ∙ ap₂ (λ (rows : List (List Bout)) (row : List Bout). rows ++ row ∷ []) (rows-without f (slots_of es) place within) (row-without (λ older. f older new.slot) (slots_of es) place)
  where
    f : ℕ → ℕ → Bout
    f = result_read layout rounds image

    left : slots_of (kept_entries fallen es) ≡ without_place place (slots_of es)
    left = slots-left fallen place es rising found

    within : (i : ℕ) → place ≡ Some i → i < length (slots_of es)
    within i is = let below = place_within fallen es i (found ∙ is) in let long = length-map es (λ (e : HeaderEntry). e.slot) in omega (arith, below, long)

-- one more, after the others
pub results-push : (layout : Layout) (rounds : ℕ) (image : ℕ → List ℕ) (es : List HeaderEntry) (e : HeaderEntry)
    → results_read layout rounds image (es ++ e ∷ []) ≡ results_read layout rounds image es ++ map (λ older. result_read layout rounds image older e.slot) (slots_of es) ∷ []
results-push layout rounds image es e =
    ap (rows_with (result_read layout rounds image) []) (map-append (λ (x : HeaderEntry). x.slot) es (e ∷ []))
    ∙ rows_with-push (result_read layout rounds image) (slots_of es) e.slot

-- a row read by entries is that by their slots
pub row-slots : (rounds : ℕ) (results : List Wins) (es : List HeaderEntry)
    → map (λ (e : HeaderEntry). bout_of rounds (get_or results e.slot no_wins)) es ≡ map (λ older. bout_of rounds (get_or results older no_wins)) (slots_of es)
row-slots rounds results [] = refl
row-slots rounds results (e ∷ es) = ap (λ (bs : List Bout). bout_of rounds (get_or results e.slot no_wins) ∷ bs) (row-slots rounds results es)

-- ---- a row in its places

pub length-onto : (places : List Wins) (es : List HeaderEntry) (bouts : List Bout) → length (results_onto places es bouts) ≡ length places
length-onto places [] bouts = refl
length-onto places (e ∷ es) [] = refl
length-onto places (e ∷ es) (b ∷ bouts) = length-onto (set places e.slot (wins_of b)) es bouts ∙ length-set places e.slot (wins_of b)

-- all of these results have as many rounds
abbrev pub HaveRounds : ℕ → List Bout → Type 0
HaveRounds rounds bouts = All (λ b. rounds_in b ≡ rounds) bouts

pub fits-onto : (rounds : ℕ) (places : List Wins) (es : List HeaderEntry) (bouts : List Bout) → FitRounds rounds places → HaveRounds rounds bouts → FitRounds rounds (results_onto places es bouts)
fits-onto rounds places [] bouts fits have = fits
fits-onto rounds places (e ∷ es) [] fits have = fits
fits-onto rounds places (e ∷ es) (b ∷ bouts) fits have =
    let all : rounds_in b ≡ rounds = All-head (λ b. rounds_in b ≡ rounds) b bouts have in
    fits-onto rounds (set places e.slot (wins_of b)) es bouts
    (All-set (λ w. w.older + w.younger ≤ rounds) places e.slot (wins_of b) (omega (arith, all)) fits)
    (All-tail (λ b. rounds_in b ≡ rounds) b bouts have)

-- the place of a slot that no other has stays
onto-free : (places : List Wins) (es : List HeaderEntry) (bouts : List Bout) (slot : ℕ) → SlotIsFree slot es → get_or (results_onto places es bouts) slot no_wins ≡ get_or places slot no_wins
onto-free places [] bouts slot free = refl
onto-free places (e ∷ es) [] slot free = refl
onto-free places (e ∷ es) (b ∷ bouts) slot free =
    onto-free (set places e.slot (wins_of b)) es bouts slot free.1
    ∙ get_or-set_other places e.slot slot (wins_of b) no_wins (λ same. free.0 (sym same))

-- a result is read back
bout-back : (rounds : ℕ) (b : Bout) → rounds_in b ≡ rounds → bout_of rounds (wins_of b) ≡ b
bout-back rounds b all =
    let rest : rounds - (b.older_wins + b.younger_wins) ≡ b.ties = omega (arith, all) in
    λ i. record { older_wins = b.older_wins; younger_wins = b.younger_wins; ties = rest i }

-- and so is a row
onto-back : (rounds : ℕ) (places : List Wins) (es : List HeaderEntry) (bouts : List Bout) → All (λ e. e.slot < length places) es → SlotsDiffer es → length bouts ≡ length es → HaveRounds rounds bouts
    → map (λ older. bout_of rounds (get_or (results_onto places es bouts) older no_wins)) (slots_of es) ≡ bouts
onto-back rounds places [] [] within differ long have = refl
onto-back rounds places [] (b ∷ bouts) within differ long have = absurd (omega (arith, long))
onto-back rounds places (e ∷ es) [] within differ long have = absurd (omega (arith, long))
onto-back rounds places (e ∷ es) (b ∷ bouts) within differ long have =
    let own : get_or (results_onto (set places e.slot (wins_of b)) es bouts) e.slot no_wins ≡ wins_of b =
    onto-free (set places e.slot (wins_of b)) es bouts e.slot differ.0
    ∙ get_or-set_same places e.slot (wins_of b) no_wins (All-head (λ x. x.slot < length places) e es within) in
    ap₂ (λ (x : Bout) (xs : List Bout). x ∷ xs)
    (ap (bout_of rounds) own ∙ bout-back rounds b (All-head (λ b. rounds_in b ≡ rounds) b bouts have))
    (onto-back rounds (set places e.slot (wins_of b)) es bouts
    (subst (λ n. All (λ x. x.slot < n) es) (sym (length-set places e.slot (wins_of b))) (All-tail (λ x. x.slot < length places) e es within))
    differ.1 (omega (arith, long)) (All-tail (λ b. rounds_in b ≡ rounds) b bouts have))

pub length-by_slot : (es : List HeaderEntry) (bouts : List Bout) → length (results_by_slot es bouts) ≡ 21
length-by_slot es bouts = length-onto (replicate 21 no_wins) es bouts

pub fits-by_slot : (rounds : ℕ) (es : List HeaderEntry) (bouts : List Bout) → HaveRounds rounds bouts → FitRounds rounds (results_by_slot es bouts)
fits-by_slot rounds es bouts have =
    fits-onto rounds (replicate 21 no_wins) es bouts (All-replicate (λ w. w.older + w.younger ≤ rounds) 21 no_wins (omega arith)) have

pub by_slot-back : (rounds : ℕ) (es : List HeaderEntry) (bouts : List Bout) → All (λ e. e.slot ≤ 20) es → SlotsDiffer es → length bouts ≡ length es → HaveRounds rounds bouts
    → map (λ older. bout_of rounds (get_or (results_by_slot es bouts) older no_wins)) (slots_of es) ≡ bouts
by_slot-back rounds es bouts low differ long have = onto-back rounds (replicate 21 no_wins) es bouts (within es low) differ long have
  where
    within : (es : List HeaderEntry) → All (λ e. e.slot ≤ 20) es → All (λ e. e.slot < length (replicate 21 no_wins)) es
    within [] low = All-nil (λ e. e.slot < length (replicate 21 no_wins))
    within (e ∷ es) low =
        let this : e.slot ≤ 20 = All-head (λ x. x.slot ≤ 20) e es low in
        All-cons (λ x. x.slot < length (replicate 21 no_wins)) e es (omega (arith, this)) (within es (All-tail (λ x. x.slot ≤ 20) e es low))
