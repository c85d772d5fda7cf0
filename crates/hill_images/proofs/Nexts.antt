-- The header after a submission, and the hill that it shows.
use Rattle.{std.proofs.Common.{◌≡◌, ℕ, suc, ◌+◌, ◌≤◌, List, [], ◌∷◌, ◌++◌, length, map, get_or, All, Option, refl, sym, ap, ap₂, subst, ◌∙◌, arith}, std.specs.Prelude.position}
use Rattle.{std.proofs.{lemmas.List.length-map, lemmas.List.Elements.{All-nil, All-cons, All-head, All-tail}}, war_types.specs.{declared.settings.RawSettings.RawSettings, Warrior.WarriorParts}}
use Rattle.koth_match.specs.{declared.bout.Bout.Bout, Match.match_of}
use Rattle.koth_hill.specs.{Hill.Member, Step.{is_entry, without, one_older, challenger}, Kept.{Kept, hill_in, fresh, fallen_place, without_place, rows_left, kept_stay, kept_fall, IsKept}}
use Rattle.{koth_hill.proofs.RowsKept.matches-rounds, hill_bytes.specs.{declared.header.HeaderEntry.HeaderEntry, declared.wins.Wins.Wins}}
use Rattle.{hill_bytes.specs.Layout.{HeaderParts, IsHeaderParts, IsEntry, SlotIsFree, SlotsDiffer, IsSlot, Layout, results_in, slot_bytes, slot_in}, hill_bytes.proofs.Results.results-written}
use Rattle.hill_images.specs.{Stands.{AllHeld, ShowsIn, no_wins, bout_of, result_read, slots_of, results_read}, Named.Agree}
use Rattle.{hill_images.specs.Places.{kept_entries, new_entry, header_placed, header_passed, results_by_slot}, hill_images.proofs.{Sectors.{slot-put, with_slot}, Held.{held_kept, held_more}}}
use Rattle.hill_images.proofs.{Results.{HaveRounds, results-placed, place-agrees, length-by_slot, fits-by_slot, by_slot-back}, Stops.{with_header, slot_written, shows_next}}

pub agree_held : (layout : Layout) (s : RawSettings) (image : ℕ → List ℕ) (es : List HeaderEntry) (ms : List Member) → AllHeld layout s image es ms → Agree es ms
agree_held layout s image [] [] held = tt
agree_held layout s image [] (m ∷ ms) held = held
agree_held layout s image (e ∷ es) [] held = held
agree_held layout s image (e ∷ es) (m ∷ ms) held = (held.0.entry, held.0.age, agree_held layout s image es ms held.1)

-- entries that agree with members are as many
pub agree_length : (es : List HeaderEntry) (ms : List Member) → Agree es ms → length es ≡ length ms
agree_length [] [] agree = refl
agree_length [] (m ∷ ms) agree = absurd agree
agree_length (e ∷ es) [] agree = absurd agree
agree_length (e ∷ es) (m ∷ ms) agree = ap suc (agree_length es ms agree.2)

-- no slot of a header's entries is past the last
pub slots_low : (h : HeaderParts) → IsHeaderParts h → All (λ e. e.slot ≤ 20) h.entries
slots_low h is = each h.entries is.entries
  where
    each : (es : List HeaderEntry) → All (IsEntry h.settings.capacity h.counter) es → All (λ e. e.slot ≤ 20) es
    each [] are = All-nil (λ e. e.slot ≤ 20)
    each (e ∷ es) are =
        let this : IsEntry h.settings.capacity h.counter e = All-head (IsEntry h.settings.capacity h.counter) e es are in
        let low : e.slot ≤ h.settings.capacity = this.slot in
        let most : h.settings.capacity ≤ 20 = is.settings.capacity_most in
        All-cons (λ x. x.slot ≤ 20) e es (omega (arith, low, most)) (each es (All-tail (IsEntry h.settings.capacity h.counter) e es are))

-- a warrior that fits, with titles for names, stands in the slot to which it was written
pub slot_holds : {layout : Layout} (s : RawSettings) (image : ℕ → List ℕ) (slot : ℕ) (w : WarriorParts) (results : List Wins) → IsSlot layout s (slot_bytes layout w results) w
    → IsSlot layout s (slot_in layout (with_slot layout slot w results image) slot) w
slot_holds {layout} s image slot w results is = subst (λ sectors. IsSlot layout s sectors w) (sym (slot-put layout slot w results image)) is

-- results with the warriors of these entries are read back, once they were written with a warrior to a slot
pub row_back : (layout : Layout) (rounds : ℕ) (image : ℕ → List ℕ) (slot : ℕ) (w : WarriorParts) (es : List HeaderEntry) (bouts : List Bout) → rounds ≤ 1000 → All (λ e. e.slot ≤ 20) es → SlotsDiffer es → length bouts ≡ length es → HaveRounds rounds bouts
    → map (λ older. result_read layout rounds (with_slot layout slot w (results_by_slot es bouts) image) older slot) (slots_of es) ≡ bouts
row_back layout rounds image slot w es bouts most low differ long have =
    ap (λ (ws : List Wins). map (λ older. bout_of rounds (get_or ws older no_wins)) (slots_of es))
    (ap (results_in layout) (slot-put layout slot w (results_by_slot es bouts) image)
    ∙ results-written layout w (results_by_slot es bouts) rounds most (length-by_slot es bouts) (fits-by_slot rounds es bouts have))
    ∙ by_slot-back rounds es bouts low differ long have

-- a challenger that stays, with the results of its matches
pub shows_placed : {layout : Layout} (image : ℕ → List ℕ) (h : HeaderParts) (hill : Kept) (fallen : Option ℕ) (slot : ℕ) (w : WarriorParts) → SlotIsFree slot h.entries
    → IsSlot layout hill.settings (slot_bytes layout w (results_by_slot h.entries (fresh hill w))) w → IsHeaderParts h → IsHeaderParts (header_placed h fallen slot) → IsKept hill → ShowsIn layout image h hill
    → ShowsIn layout (with_header layout (header_placed h fallen slot) (with_slot layout slot w (results_by_slot h.entries (fresh hill w)) image)) (header_placed h fallen slot) (kept_stay hill w fallen)
shows_placed {layout} image h hill fallen slot w free is_slot was fits kept is =
    shows_next next h (header_placed h fallen slot) (kept_stay hill w fallen) fits refl refl is.settings (ap (λ n. n + 1) is.counter) written.newest
    (held_more layout hill.settings next (kept_entries fallen h.entries) (one_older (without fallen hill.members)) (new_entry (h.counter + 1) slot) (challenger (hill_in hill) w)
    (held_kept layout hill.settings next fallen h.entries hill.members written.members)
    (record { entry = ap (λ n. n + 1) (sym is.counter); age = refl; slot = slot_holds hill.settings image slot w results is_slot }))
    (sym rows)
  where
    results : List Wins
    results = results_by_slot h.entries (fresh hill w)

    next : ℕ → List ℕ
    next = with_slot layout slot w results image

    written : ShowsIn layout next h hill
    written = slot_written image slot w results h hill free is

    agree : Agree h.entries hill.members
    agree = agree_held layout hill.settings image h.entries hill.members is.members

    rounds : ℕ
    rounds = hill.settings.rounds

    long : length (fresh hill w) ≡ length h.entries
    long = length-map hill.members (λ (m : Member). match_of hill.settings m.warrior w) ∙ sym (agree_length h.entries hill.members agree)

    have : HaveRounds rounds (fresh hill w)
    have = matches-rounds hill.settings hill.members w

    row : map (λ older. result_read layout rounds next older slot) (slots_of h.entries) ≡ fresh hill w
    row = row_back layout rounds image slot w h.entries (fresh hill w) kept.hill.settings.rounds_most (slots_low h was) was.slots long have

    place : position (λ e. is_entry e.entry fallen) h.entries ≡ fallen_place fallen hill.members
    place = place-agrees fallen h.entries hill.members agree

    rows : results_read layout rounds next (kept_entries fallen h.entries ++ new_entry (h.counter + 1) slot ∷ []) ≡ (kept_stay hill w fallen).results
    rows = results-placed layout rounds next fallen (fallen_place fallen hill.members) h.entries (new_entry (h.counter + 1) slot) was.rising place
        ∙ ap₂ (λ (rs : List (List Bout)) (r : List Bout). rows_left (fallen_place fallen hill.members) rs ++ without_place (fallen_place fallen hill.members) r ∷ []) (sym written.results) row

-- a challenger that falls
pub shows_passed : {layout : Layout} (image : ℕ → List ℕ) (h : HeaderParts) (hill : Kept) → IsHeaderParts (header_passed h) → ShowsIn layout image h hill → ShowsIn layout (with_header layout (header_passed h) image) (header_passed h) (kept_fall hill)
shows_passed image h hill fits is =
    shows_next image h (header_passed h) (kept_fall hill) fits refl refl is.settings (ap (λ n. n + 1) is.counter) is.newest is.members is.results
