-- The slots of a hill, written one after another to a device that holds none: for `write_members`.
use Rattle.std.proofs.Common.{◌≡◌, ◌≢◌, inl, inr, ℕ, zero, suc, ◌+◌, ◌%◌, ◌<◌, ◌≤◌, List, [], ◌∷◌, ◌++◌, length, take, get_or, slice_get, Some, All, refl, sym, ap, ap₂, subst, ◌∙◌, arith}
use Rattle.std.proofs.{Common.{min, length-take}, lemmas.List.{take_all, take_more}, lemmas.List.Elements.All-get_or, lemmas.Option.get_or_from_slice_get}
use Rattle.{war_types.specs.{declared.settings.RawSettings.RawSettings, Warrior.WarriorParts}, koth_match.specs.declared.bout.Bout.Bout, koth_hill.specs.Hill.{Member, MayStand}}
use Rattle.{koth_hill.specs.Kept.{Kept, AreRows, IsKept as IsKeptHill, hill_in}, sector_disk.specs.{Facts.DeviceFacts, Disk.{Disk, current}, Image.{Images, put}, Changes.{after, Begun}}}
use Rattle.{sector_disk.specs.Served.IsKept, sector_disk.proofs.{Images.put-other, Kept.{kept_on, kept_same}, Runs.begun_front}, hill_bytes.specs.declared.header.HeaderEntry.HeaderEntry}
use Rattle.hill_bytes.specs.{declared.wins.Wins.Wins, Layout.{HeaderParts, IsHeader, IsHeaderParts, IsTitled, SlotIsFree, SlotsDiffer, layout_of, new_layout, slot_at, slot_bytes}}
use Rattle.{hill_bytes.proofs.Results.slot-written, hill_images.specs.{Stands.{AllHeld, IsHeld, results_read}, Named.{Agree, IsNamed}, Places.{results_by_slot, writes_from}}}
use Rattle.{hill_images.specs.{Opening.HoldsNone, Writing.AreStored}, hill_images.proofs.Sectors.{IsKeptBy, images_writes, puts_keep, with_slot, writes_stopped}}
use Rattle.hill_images.proofs.{Held.{apart_slot, held_elsewhere, held_more}, Results.{HaveRounds, fits-by_slot, length-by_slot, results-elsewhere, results-push}, Newest.parity_low}
use Rattle.hill_images.proofs.{Stops.{current-slot, slot_room}, Nexts.{agree_length, row_back, slot_holds}, WarriorsRead.low_before}

-- `n` of them were written
pub record IsStoredTo {D : Type 0} (facts : DeviceFacts D) (old now : D) (h : HeaderParts) (hill : Kept) (i : ℕ) : Type 0 where
  pub kept : IsKept facts old now
  pub faultless : facts.faults now ≡ facts.faults old
  pub none : facts.lawful old → Images (facts.disk old) HoldsNone → Images (facts.disk now) HoldsNone
  pub members : facts.lawful old → AllHeld new_layout hill.settings (current (facts.disk now)) (take i h.entries) (take i hill.members)
  pub results : facts.lawful old → take i hill.results ≡ results_read new_layout hill.settings.rounds (current (facts.disk now)) (take i h.entries)

-- none was written
pub none_stored : {D : Type 0} (facts : DeviceFacts D) (now : D) (h : HeaderParts) (hill : Kept) → IsStoredTo facts now now h hill 0
none_stored facts now h hill = record {
  kept = kept_same facts now;
  faultless = refl;
  none = λ lawful. λ each. each;
  members = λ lawful. tt;
  results = λ lawful. refl;
}

-- ---- no header comes into being

none_elsewhere : (image : ℕ → List ℕ) (n : ℕ) (content : List ℕ) → 2 ≤ n → HoldsNone image → HoldsNone (put n content image)
none_elsewhere image n content past none = λ format. λ h. λ here.
    none format h (subst (λ bytes. IsHeader (layout_of format) bytes h)
    (put-other image n (h.generation % 2) content (λ same. let low : h.generation % 2 < 2 = parity_low h.generation in omega (arith, same, low, past))) here)

slot_none : (slot : ℕ) → IsKeptBy HoldsNone (slot_at new_layout slot) (slot_at new_layout slot + 4)
slot_none slot m content image from to none = none_elsewhere image m content (omega (arith, from)) none

-- a slot was written in full
pub none_made : (slot : ℕ) (w : WarriorParts) (results : List Wins) (sectors : List (List ℕ)) (old new : Disk) → sectors ≡ slot_bytes new_layout w results → new ≡ after (writes_from (slot_at new_layout slot) sectors) old → Images old HoldsNone → Images new HoldsNone
none_made slot w results sectors old new is made each =
    subst (λ d. Images d HoldsNone) (sym made)
    (images_writes HoldsNone (slot_at new_layout slot) (slot_at new_layout slot + 4) sectors old (subst (λ xs. slot_at new_layout slot + length xs ≤ slot_at new_layout slot + 4) (sym is) (slot_room new_layout slot w results)) (slot_none slot) each)

-- or in part
pub none_cut : (slot : ℕ) (w : WarriorParts) (results : List Wins) (sectors : List (List ℕ)) (old new : Disk) → sectors ≡ slot_bytes new_layout w results → Begun (writes_from (slot_at new_layout slot) sectors) old new → Images old HoldsNone → Images new HoldsNone
none_cut slot w results sectors old new is begun each =
    let room : slot_at new_layout slot + length sectors ≤ slot_at new_layout slot + 4 = subst (λ xs. slot_at new_layout slot + length xs ≤ slot_at new_layout slot + 4) (sym is) (slot_room new_layout slot w results) in
    elim (writes_stopped HoldsNone (slot_at new_layout slot) (slot_at new_layout slot + 4) sectors [] old new room (slot_none slot) each (begun_front (writes_from (slot_at new_layout slot) sectors) [] old new begun)) [
      | inl among ↦ among
      | inr whole ↦ none_made slot w results sectors old new is whole each
    ]

-- ---- the entries before one

free_at : (slot : ℕ) (es : List HeaderEntry) (i : ℕ) (d : HeaderEntry) → i < length es → SlotIsFree slot es → (get_or es i d).slot ≢ slot
free_at slot [] i d below free = absurd (omega (arith, below))
free_at slot (e ∷ es) zero d below free = free.0
free_at slot (e ∷ es) (suc i) d below free = free_at slot es i d (omega (arith, below)) free.1

free_before : (es : List HeaderEntry) (i : ℕ) (d : HeaderEntry) → i < length es → SlotsDiffer es → SlotIsFree (get_or es i d).slot (take i es)
free_before [] i d below differ = absurd (omega (arith, below))
free_before (e ∷ es) zero d below differ = tt
free_before (e ∷ es) (suc i) d below differ = (
  (λ same. free_at e.slot es i d (omega (arith, below)) differ.0 (sym same)),
  free_before es i d (omega (arith, below)) differ.1,
)

free_take : (slot : ℕ) (i : ℕ) (es : List HeaderEntry) → SlotIsFree slot es → SlotIsFree slot (take i es)
free_take slot zero es free = tt
free_take slot (suc i) [] free = tt
free_take slot (suc i) (e ∷ es) free = (free.0, free_take slot i es free.1)

differ_take : (i : ℕ) (es : List HeaderEntry) → SlotsDiffer es → SlotsDiffer (take i es)
differ_take zero es differ = tt
differ_take (suc i) [] differ = tt
differ_take (suc i) (e ∷ es) differ = (free_take e.slot i es differ.0, differ_take i es differ.1)

agree_at : (es : List HeaderEntry) (ms : List Member) (i : ℕ) (e : HeaderEntry) (m : Member) → i < length es → Agree es ms → ((get_or ms i m).entry ≡ (get_or es i e).entry) × ((get_or ms i m).age ≡ (get_or es i e).age)
agree_at [] ms i e m below agree = absurd (omega (arith, below))
agree_at (x ∷ es) [] i e m below agree = absurd agree
agree_at (x ∷ es) (y ∷ ms) zero e m below agree = (agree.0, agree.1)
agree_at (x ∷ es) (y ∷ ms) (suc i) e m below agree = agree_at es ms i e m (omega (arith, below)) agree.2

row_at : (rounds n : ℕ) (rows : List (List Bout)) (i : ℕ) (d : List Bout) → i < length rows → AreRows rounds n rows → (length (get_or rows i d) ≡ n + i) × HaveRounds rounds (get_or rows i d)
row_at rounds n [] i d below are = absurd (omega (arith, below))
row_at rounds n (row ∷ rows) zero d below are = (are.0 ∙ omega arith, are.1)
row_at rounds n (row ∷ rows) (suc i) d below are =
    let further = row_at rounds (n + 1) rows i d (omega (arith, below)) are.2 in (further.0 ∙ omega arith, further.1)

-- ---- one more slot

module _ (s : RawSettings) (image : ℕ → List ℕ) (e : HeaderEntry) (w : WarriorParts) (results : List Wins) (es : List HeaderEntry) (free : SlotIsFree e.slot es) where
  abbrev next : ℕ → List ℕ
  next = with_slot new_layout e.slot w results image

  held_still : (ms : List Member) → AllHeld new_layout s image es ms → AllHeld new_layout s next es ms
  held_still ms held =
      puts_keep (λ other. AllHeld new_layout s other es ms) (slot_at new_layout e.slot) (slot_at new_layout e.slot + 4) (slot_bytes new_layout w results) image (slot_room new_layout e.slot w results)
      (λ n content other from to is. held_elsewhere new_layout s other n content es ms (apart_slot new_layout n e.slot es from to free) is) held

  results_still : (rows : List (List Bout)) → rows ≡ results_read new_layout s.rounds image es → rows ≡ results_read new_layout s.rounds next es
  results_still rows read =
      puts_keep (λ other. rows ≡ results_read new_layout s.rounds other es) (slot_at new_layout e.slot) (slot_at new_layout e.slot + 4) (slot_bytes new_layout w results) image (slot_room new_layout e.slot w results)
      (λ n content other from to is. is ∙ sym (results-elsewhere new_layout s.rounds other n content es (apart_slot new_layout n e.slot es from to free))) read

-- what the next is written with
pub record IsNextStored (h : HeaderParts) (hill : Kept) (i : ℕ) (e : HeaderEntry) (m : Member) (row : List Bout) : Type 0 where
  pub header : IsHeaderParts h
  pub kept : IsKeptHill hill
  pub named : IsNamed h (hill_in hill)
  pub below : i < length h.entries
  pub entry_is : get_or h.entries i e ≡ e
  pub member_is : get_or hill.members i m ≡ m
  pub row_is : get_or hill.results i row ≡ row
  pub titled : IsTitled m.warrior

module _ (h : HeaderParts) (hill : Kept) (i : ℕ) (e : HeaderEntry) (m : Member) (row : List Bout) (is : IsNextStored h hill i e m row) where
  abbrev pub es : List HeaderEntry
  es = take i h.entries

  many : length h.entries ≡ length hill.members
  many = agree_length h.entries hill.members is.named.entries

  low : All (λ x. x.slot ≤ 20) es
  low = low_before h h.entries i refl is.header

  differ : SlotsDiffer es
  differ = differ_take i h.entries is.header.slots

  free : SlotIsFree e.slot es
  free = subst (λ (x : HeaderEntry). SlotIsFree x.slot es) is.entry_is (free_before h.entries i e is.below is.header.slots)

  more_entries : take (i + 1) h.entries ≡ es ++ e ∷ []
  more_entries = take_more h.entries i e is.below ∙ ap (λ x. es ++ x ∷ []) is.entry_is

  more_members : take (i + 1) hill.members ≡ take i hill.members ++ m ∷ []
  more_members = take_more hill.members i m (omega (arith, is.below, many)) ∙ ap (λ x. take i hill.members ++ x ∷ []) is.member_is

  more_rows : take (i + 1) hill.results ≡ take i hill.results ++ row ∷ []
  more_rows = take_more hill.results i row (omega (arith, is.below, many, is.kept.each)) ∙ ap (λ x. take i hill.results ++ x ∷ []) is.row_is

  all_rounds : (length row ≡ i) × HaveRounds hill.settings.rounds row
  all_rounds =
      let at = row_at hill.settings.rounds 0 hill.results i row (omega (arith, is.below, many, is.kept.each)) is.kept.rows in
      (ap length (sym is.row_is) ∙ at.0 ∙ omega arith, subst (HaveRounds hill.settings.rounds) is.row_is at.1)

  pub long_row : length row ≡ length es
  long_row = let taken : length es ≡ min i (length h.entries) = length-take i h.entries in omega (arith, all_rounds.0, taken, is.below)

  may_stand : MayStand hill.settings hill.counter m
  may_stand = subst (MayStand hill.settings hill.counter) is.member_is (All-get_or (MayStand hill.settings hill.counter) hill.members i m (omega (arith, is.below, many)) is.kept.hill.members)

  -- the slot that is written holds it
  pub stored_member : (image : ℕ → List ℕ) → IsHeld new_layout hill.settings (with_slot new_layout e.slot m.warrior (results_by_slot es row) image) e m
  stored_member image =
      let at = agree_at h.entries hill.members i e m is.below is.named.entries in record {
        entry = ap (λ (x : Member). x.entry) (sym is.member_is) ∙ at.0 ∙ ap (λ (x : HeaderEntry). x.entry) is.entry_is;
        age = ap (λ (x : Member). x.age) (sym is.member_is) ∙ at.1 ∙ ap (λ (x : HeaderEntry). x.age) is.entry_is;
        slot = slot_holds hill.settings image e.slot m.warrior (results_by_slot es row)
            (slot-written new_layout hill.settings m.warrior (results_by_slot es row) is.kept.hill.settings may_stand.fits is.titled (length-by_slot es row) (fits-by_slot hill.settings.rounds es row all_rounds.1));
      }

  pub stored_members : (image : ℕ → List ℕ) → AllHeld new_layout hill.settings image es (take i hill.members)
      → AllHeld new_layout hill.settings (with_slot new_layout e.slot m.warrior (results_by_slot es row) image) (take (i + 1) h.entries) (take (i + 1) hill.members)
  stored_members image held =
      let after_it = with_slot new_layout e.slot m.warrior (results_by_slot es row) image in
      subst (λ xs. AllHeld new_layout hill.settings after_it xs (take (i + 1) hill.members)) (sym more_entries)
      (subst (AllHeld new_layout hill.settings after_it (es ++ e ∷ [])) (sym more_members)
      (held_more new_layout hill.settings after_it es (take i hill.members) e m (held_still hill.settings image e m.warrior (results_by_slot es row) es free (take i hill.members) held) (stored_member image)))

  pub stored_results : (image : ℕ → List ℕ) → take i hill.results ≡ results_read new_layout hill.settings.rounds image es
      → take (i + 1) hill.results ≡ results_read new_layout hill.settings.rounds (with_slot new_layout e.slot m.warrior (results_by_slot es row) image) (take (i + 1) h.entries)
  stored_results image read =
      let after_it = with_slot new_layout e.slot m.warrior (results_by_slot es row) image in
      more_rows
      ∙ ap₂ (λ (rows : List (List Bout)) (x : List Bout). rows ++ x ∷ []) (results_still hill.settings image e m.warrior (results_by_slot es row) es free (take i hill.results) read)
      (sym (row_back new_layout hill.settings.rounds image e.slot m.warrior es row is.kept.hill.settings.rounds_most low differ long_row all_rounds.1))
      ∙ sym (results-push new_layout hill.settings.rounds after_it es e)
      ∙ ap (results_read new_layout hill.settings.rounds after_it) (sym more_entries)

-- `n` of them were written, and one more
pub stored_next : {D : Type 0} (facts : DeviceFacts D) (old mid new : D) (h : HeaderParts) (hill : Kept) (i : ℕ) (e : HeaderEntry) (m : Member) (row : List Bout) (sectors : List (List ℕ)) → IsNextStored h hill i e m row → sectors ≡ slot_bytes new_layout m.warrior (results_by_slot (take i h.entries) row)
    → IsStoredTo facts old mid h hill i → IsKept facts mid new → facts.faults new ≡ facts.faults mid → (facts.lawful mid → facts.disk new ≡ after (writes_from (slot_at new_layout e.slot) sectors) (facts.disk mid)) → IsStoredTo facts old new h hill (i + 1)
stored_next {D} facts old mid new h hill i e m row sectors is are before kept faultless made = record {
  kept = kept_on facts old mid new before.kept kept;
  faultless = faultless ∙ before.faultless;
  none = λ lawful. λ each. none_made e.slot m.warrior results sectors (facts.disk mid) (facts.disk new) are (made (before.kept.same_laws.1 lawful)) (before.none lawful each);
  members = λ lawful. subst (λ image. AllHeld new_layout hill.settings image (take (i + 1) h.entries) (take (i + 1) hill.members)) (sym (now_is lawful))
      (stored_members h hill i e m row is (current (facts.disk mid)) (before.members lawful));
  results = λ lawful. subst (λ image. take (i + 1) hill.results ≡ results_read new_layout hill.settings.rounds image (take (i + 1) h.entries)) (sym (now_is lawful))
      (stored_results h hill i e m row is (current (facts.disk mid)) (before.results lawful));
}
  where
    results : List Wins
    results = results_by_slot (take i h.entries) row

    now_is : facts.lawful old → current (facts.disk new) ≡ with_slot new_layout e.slot m.warrior results (current (facts.disk mid))
    now_is lawful = ap current (made (before.kept.same_laws.1 lawful)) ∙ ap (λ xs. current (after (writes_from (slot_at new_layout e.slot) xs) (facts.disk mid))) are
        ∙ current-slot new_layout (facts.disk mid) e.slot m.warrior results

-- all were
pub stored_all : {D : Type 0} (facts : DeviceFacts D) (old now : D) (h : HeaderParts) (hill : Kept) (i : ℕ) → length h.entries ≤ i → IsKeptHill hill → IsNamed h (hill_in hill) → IsStoredTo facts old now h hill i → facts.lawful old → AreStored (current (facts.disk now)) h hill
stored_all facts old now h hill i past kept named stored lawful =
    let many : length h.entries ≡ length hill.members = agree_length h.entries hill.members named.entries in record {
      members = subst (λ xs. AllHeld new_layout hill.settings (current (facts.disk now)) xs hill.members) (take_all i h.entries past)
          (subst (AllHeld new_layout hill.settings (current (facts.disk now)) (take i h.entries)) (take_all i hill.members (omega (arith, past, many))) (stored.members lawful));
      results = sym (take_all i hill.results (omega (arith, past, many, kept.each))) ∙ stored.results lawful ∙ ap (results_read new_layout hill.settings.rounds (current (facts.disk now))) (take_all i h.entries past);
    }

-- an entry that is there is found, whatever stands for a missing one
get_or-any : (es : List HeaderEntry) (i : ℕ) (a b : HeaderEntry) → i < length es → get_or es i a ≡ get_or es i b
get_or-any [] i a b below = absurd (omega (arith, below))
get_or-any (e ∷ es) zero a b below = refl
get_or-any (e ∷ es) (suc i) a b below = get_or-any es i a b (omega (arith, below))

-- what is known of the next when it is written
module _ (h : HeaderParts) (hill : Kept) (i : ℕ) (entries : List HeaderEntry) (same : entries ≡ h.entries) (kept : IsKeptHill hill) (named : IsNamed h (hill_in hill)) (inside : i < length hill.members) where
  pub below_entries : i < length entries
  below_entries = let many = agree_length h.entries hill.members named.entries in omega (arith, inside, many, ap length same)

  pub row_long : (m : Member) (row : List Bout) → slice_get hill.members i ≡ Some m → slice_get hill.results i ≡ Some row → length row ≡ length (take i entries)
  row_long m row is_m is_row =
      let many = agree_length h.entries hill.members named.entries in
      let at = row_at hill.settings.rounds 0 hill.results i row (omega (arith, inside, kept.each)) kept.rows in
      let taken : length (take i entries) ≡ min i (length entries) = length-take i entries in
      let is : length row ≡ i = ap length (sym (get_or_from_slice_get hill.results i row row is_row)) ∙ at.0 ∙ omega arith in
      omega (arith, is, taken, below_entries)

  pub next_stored : (d : HeaderEntry) (m : Member) (row : List Bout) → IsHeaderParts h → slice_get hill.members i ≡ Some m → slice_get hill.results i ≡ Some row → IsTitled m.warrior → IsNextStored h hill i (get_or h.entries i d) m row
  next_stored d m row header is_m is_row titled =
      let many = agree_length h.entries hill.members named.entries in record {
        header = header;
        kept = kept;
        named = named;
        below = omega (arith, inside, many);
        entry_is = get_or-any h.entries i (get_or h.entries i d) d (omega (arith, inside, many));
        member_is = get_or_from_slice_get hill.members i m m is_m;
        row_is = get_or_from_slice_get hill.results i row row is_row;
        titled = titled;
      }

-- the sectors that were made of the next are its slot's
pub content_is : (sectors : List (List ℕ)) (w : WarriorParts) (results : List Wins) (m : Member) (i : ℕ) (entries others : List HeaderEntry) (row : List Bout) → sectors ≡ slot_bytes new_layout w results → m.warrior ≡ w → results ≡ results_by_slot (take i entries) row → entries ≡ others
    → sectors ≡ slot_bytes new_layout m.warrior (results_by_slot (take i others) row)
content_is sectors w results m i entries others row made same is entries_are =
    made ∙ ap₂ (slot_bytes new_layout) (sym same) (is ∙ ap (λ (xs : List HeaderEntry). results_by_slot (take i xs) row) entries_are)
