-- The warriors of a header, read one after another.
use Rattle.std.proofs.Common.{◌≡◌, ℕ, zero, suc, ◌+◌, ◌-◌, ◌<◌, ◌≤◌, List, [], ◌∷◌, ◌++◌, length, map, All, take, get_or, Option, None, Some, Result, Ok, Err, IfOk, refl, sym, ap, ap₂}
use Rattle.std.proofs.{Common.{subst, ◌∙◌, inl, inr, min, arith, length-take}, Math.Nat.mul-le-mul_left, lemmas.Bool.cases_eq, lemmas.List.{take_more, take_all}}
use Rattle.{std.proofs.lemmas.List.Elements.{All-nil, All-cons, All-head, All-tail, All-take, All-get_or}, war_types.specs.{declared.settings.RawSettings.RawSettings, Warrior.WarriorParts}}
use Rattle.{koth_match.specs.{declared.bout.Bout.Bout, Match.rounds_in}, koth_hill.specs.Hill.{Member, member_of, last_entry, last_entry_from}}
use Rattle.{koth_hill.specs.Kept.{Kept, IsKept as IsKeptHill, kept_of, new_kept}, sector_disk.specs.{Facts.DeviceFacts, Disk.current, Served.{IsKept, Failed}}}
use Rattle.{sector_disk.proofs.Kept.{kept_on, kept_same}, hill_bytes.specs.{declared.header.HeaderEntry.HeaderEntry, declared.wins.Wins.Wins}}
use Rattle.hill_bytes.specs.Layout.{HeaderParts, IsHeaderParts, IsEntry, EntriesRise, FitRounds, HoldsSame, IsSlotRead, Layout, code_room, new_layout, results_in, sectors_in, slot_in}
use Rattle.hill_images.specs.{Stands.{IsHeld, AllHeld, no_wins, bout_of, slots_of, results_read}, Named.Agree}
use Rattle.hill_images.specs.{Reading.{IsDecodedAs, ResultsRead, SlotHolds, WarriorRead, WarriorNotRead, HillRead, HillNotRead}, declared.reading.Unread.Unread}
use Rattle.hill_images.proofs.{Held.held_more, Results.{results-push, row-slots}, Nexts.{agree_length, slots_low}, Submitted.agree_more}

-- `n` entries were read
pub record IsReadTo {D : Type 0} (layout : Layout) (facts : DeviceFacts D) (old now : D) (h : HeaderParts) (i : ℕ) (hill : Kept) : Type 0 where
  pub kept : IsKept facts old now
  pub faultless : facts.faults now ≡ facts.faults old
  pub same : facts.lawful old → facts.disk now ≡ facts.disk old
  pub settings : hill.settings ≡ h.settings
  pub counter : hill.counter ≡ h.counter
  pub agree : Agree (take i h.entries) hill.members
  pub held : facts.lawful old → AllHeld layout h.settings (current (facts.disk old)) (take i h.entries) hill.members
  pub results : facts.lawful old → hill.results ≡ results_read layout h.settings.rounds (current (facts.disk old)) (take i h.entries)

-- the last that was read is before the next
last_before : (before : ℕ) (es : List HeaderEntry) (ms : List Member) (i : ℕ) (d : HeaderEntry) → i < length es → Agree (take i es) ms → EntriesRise before es → last_entry_from before ms < (get_or es i d).entry
last_before before [] ms i d below agree rise = absurd (omega (arith, below))
last_before before (e ∷ es) [] zero d below agree rise = rise.0
last_before before (e ∷ es) (m ∷ ms) zero d below agree rise = absurd agree
last_before before (e ∷ es) [] (suc i) d below agree rise = absurd agree
last_before before (e ∷ es) (m ∷ ms) (suc i) d below agree rise =
    subst (λ n. last_entry_from n ms < (get_or es i d).entry) (sym agree.0)
    (last_before e.entry es ms i d (omega (arith, below)) agree.2 rise.1)

pub last_read : (es : List HeaderEntry) (ms : List Member) (i : ℕ) (d : HeaderEntry) → i < length es → Agree (take i es) ms → EntriesRise 0 es → last_entry ms < (get_or es i d).entry
last_read es ms i d below agree rise = last_before 0 es ms i d below agree rise

pub agree_next : (es : List HeaderEntry) (ms : List Member) (i : ℕ) (d : HeaderEntry) (m : Member) → i < length es → Agree (take i es) ms → m.entry ≡ (get_or es i d).entry → m.age ≡ (get_or es i d).age → Agree (take (i + 1) es) (ms ++ m ∷ [])
agree_next es ms i d m below agree entry age =
    subst (λ xs. Agree xs (ms ++ m ∷ [])) (sym (take_more es i d below)) (agree_more (take i es) ms (get_or es i d) m agree entry age)

pub held_next : (layout : Layout) (s : RawSettings) (image : ℕ → List ℕ) (es : List HeaderEntry) (ms : List Member) (i : ℕ) (d : HeaderEntry) (m : Member) → i < length es → AllHeld layout s image (take i es) ms → IsHeld layout s image (get_or es i d) m → AllHeld layout s image (take (i + 1) es) (ms ++ m ∷ [])
held_next layout s image es ms i d m below held this =
    subst (λ xs. AllHeld layout s image xs (ms ++ m ∷ [])) (sym (take_more es i d below)) (held_more layout s image (take i es) ms (get_or es i d) m held this)

-- each entry's slot holds a warrior
pub held_at : (layout : Layout) (s : RawSettings) (image : ℕ → List ℕ) (es : List HeaderEntry) (ms : List Member) (i : ℕ) (d : HeaderEntry) → i < length es → AllHeld layout s image es ms → (w : WarriorParts) × SlotHolds layout s image (get_or es i d).slot w
held_at layout s image [] ms i d below held = absurd (omega (arith, below))
held_at layout s image (e ∷ es) [] i d below held = absurd held
held_at layout s image (e ∷ es) (m ∷ ms) zero d below held = (m.warrior, held.0.slot)
held_at layout s image (e ∷ es) (m ∷ ms) (suc i) d below held = held_at layout s image es ms i d (omega (arith, below)) held.1

pub rose_more : {D : Type 0} (facts : DeviceFacts D) (old mid new : D) → facts.faults old ≤ facts.faults mid → facts.faults mid ≤ facts.faults new → Failed facts mid new → Failed facts old new
rose_more facts old mid new first second (inl rose) = inl (omega (arith, first, rose))
rose_more facts old mid new first second (inr full) = elim (cases_eq (facts.faults old) (facts.faults mid)) [
  | inl same ↦ inr (same ∙ full)
  | inr other ↦ inl (omega (arith, first, second, other))
]

-- an entry of a header
pub entry_of : (h : HeaderParts) (i : ℕ) (d : HeaderEntry) → IsHeaderParts h → i < length h.entries → IsEntry h.settings.capacity h.counter (get_or h.entries i d)
entry_of h i d is below = is.entries i d below

-- what the next is put back with
pub record IsNextRead (h : HeaderParts) (hill : Kept) (e : HeaderEntry) : Type 0 where
  pub room : length hill.members < hill.settings.capacity
  pub entry : last_entry hill.members < e.entry
  pub counted : e.entry ≤ hill.counter
  pub age : e.age ≤ hill.counter - e.entry

pub next_read : {D : Type 0} {layout : Layout} (facts : DeviceFacts D) (old now : D) (h : HeaderParts) (i : ℕ) (hill : Kept) (es : List HeaderEntry) (d : HeaderEntry) → es ≡ h.entries → IsHeaderParts h → i < length es → IsReadTo layout facts old now h i hill → IsNextRead h hill (get_or es i d)
next_read {layout = layout} facts old now h i hill es d same is below read =
    subst (λ xs. IsNextRead h hill (get_or xs i d)) (sym same) (record {
      room = subst (λ s. length hill.members < s.capacity) (sym read.settings)
          (let count : length (take i h.entries) ≡ length hill.members = agree_length (take i h.entries) hill.members read.agree in
          let taken : length (take i h.entries) ≡ min i (length h.entries) = length-take i h.entries in
          let few : length h.entries ≤ h.settings.capacity = is.few in
          omega (arith, here));
      entry = last_read h.entries hill.members i d here read.agree is.rising;
      counted = subst (λ n. (get_or h.entries i d).entry ≤ n) (sym read.counter) this.entry;
      age = subst (λ n. (get_or h.entries i d).age ≤ n - (get_or h.entries i d).entry) (sym read.counter) this.age;
    })
  where
    here : i < length h.entries
    here = subst (λ xs. i < length xs) same below

    this : IsEntry h.settings.capacity h.counter (get_or h.entries i d)
    this = entry_of h i d is here

-- none was read
pub none_read : {D : Type 0} {layout : Layout} (facts : DeviceFacts D) (now : D) (h : HeaderParts) (hill : Kept) (s : RawSettings) (counter : ℕ) → hill ≡ new_kept s counter → s ≡ h.settings → counter ≡ h.counter → IsReadTo layout facts now now h 0 hill
none_read {layout = layout} facts now h hill s counter is same_s same_counter =
    subst (λ x. IsReadTo layout facts now now h 0 x) (sym is) (record {
      kept = kept_same facts now;
      faultless = refl;
      same = λ lawful. refl;
      settings = same_s;
      counter = same_counter;
      agree = tt;
      held = λ lawful. tt;
      results = λ lawful. refl;
    })

-- the slot of an entry is on the device
pub slot_there : {D : Type 0} (layout : Layout) (facts : DeviceFacts D) (old now : D) (h : HeaderParts) (es : List HeaderEntry) (i : ℕ) (d : HeaderEntry) → es ≡ h.entries → IsHeaderParts h → i < length es → IsKept facts old now
    → sectors_in layout h.settings.capacity ≤ facts.size old → sectors_in layout (get_or es i d).slot ≤ facts.size now
slot_there layout facts old now h es i d same is below kept room =
    let low : (get_or es i d).slot ≤ h.settings.capacity =
    subst (λ xs. (get_or xs i d).slot ≤ h.settings.capacity) (sym same) (entry_of h i d is (subst (λ xs. i < length xs) same below)).slot in
    subst (λ n. sectors_in layout (get_or es i d).slot ≤ n) (sym kept.same_size)
    (omega (arith, room, mul-le-mul_left {m = (get_or es i d).slot + 1} {n = h.settings.capacity + 1} (layout.full + 1) (omega (arith, low))))

-- the results of the next, with those before it
abbrev pub row_of : ℕ → List Wins → List HeaderEntry → List Bout
row_of rounds results es = map (λ (e : HeaderEntry). bout_of rounds (get_or results e.slot no_wins)) es

results_next : (layout : Layout) (rounds : ℕ) (image : ℕ → List ℕ) (es : List HeaderEntry) (i : ℕ) (d : HeaderEntry) (results : List Wins) (rows : List (List Bout)) → i < length es → results ≡ results_in layout (slot_in layout image (get_or es i d).slot)
    → rows ≡ results_read layout rounds image (take i es) → rows ++ row_of rounds results (take i es) ∷ [] ≡ results_read layout rounds image (take (i + 1) es)
results_next layout rounds image es i d results rows below read before =
    ap₂ (λ (xs : List (List Bout)) (x : List Bout). xs ++ x ∷ []) before
    (row-slots rounds results (take i es) ∙ ap (λ (ws : List Wins). map (λ older. bout_of rounds (get_or ws older no_wins)) (slots_of (take i es))) read)
    ∙ sym (results-push layout rounds image (take i es) (get_or es i d))
    ∙ ap (results_read layout rounds image) (sym (take_more es i d below))

-- one more was read
pub read_more : {D : Type 0} {layout : Layout} (facts : DeviceFacts D) (old mid new : D) (h : HeaderParts) (i : ℕ) (hill next : Kept) (d : HeaderEntry) (w : WarriorParts) (results : List Wins) → i < length h.entries → IsReadTo layout facts old mid h i hill → IsKept facts mid new → facts.faults new ≡ facts.faults mid → (facts.lawful mid → facts.disk new ≡ facts.disk mid)
    → WarriorRead layout facts mid h.settings (get_or h.entries i d).slot w → ResultsRead layout facts mid (get_or h.entries i d).slot results
    → next ≡ kept_of hill.settings hill.counter (hill.members ++ member_of (get_or h.entries i d).entry (get_or h.entries i d).age w ∷ []) (hill.results ++ row_of h.settings.rounds results (take i h.entries) ∷ [])
    → IsReadTo layout facts old new h (i + 1) next
read_more {layout = layout} facts old mid new h i hill next d w results below read kept faultless same_disk warrior row is =
    subst (λ x. IsReadTo layout facts old new h (i + 1) x) (sym is) (record {
      kept = kept_on facts old mid new read.kept kept;
      faultless = faultless ∙ read.faultless;
      same = λ lawful. same_disk (read.kept.same_laws.1 lawful) ∙ read.same lawful;
      settings = read.settings;
      counter = read.counter;
      agree = agree_next h.entries hill.members i d (member_of (get_or h.entries i d).entry (get_or h.entries i d).age w) below read.agree refl refl;
      held = λ lawful. held_next layout h.settings (current (facts.disk old)) h.entries hill.members i d (member_of (get_or h.entries i d).entry (get_or h.entries i d).age w) below (read.held lawful) (record {
        entry = refl;
        age = refl;
        slot = subst (λ x. SlotHolds layout h.settings (current x) (get_or h.entries i d).slot w) (read.same lawful) (warrior (read.kept.same_laws.1 lawful));
      });
      results = λ lawful. results_next layout h.settings.rounds (current (facts.disk old)) h.entries i d results hill.results below
          (subst (λ x. results ≡ results_in layout (slot_in layout (current x) (get_or h.entries i d).slot)) (read.same lawful) (row (read.kept.same_laws.1 lawful)))
          (read.results lawful);
    })

-- the results that were read of one, as they are put back
abbrev pub IsRowRead : List HeaderEntry → ℕ → ℕ → List Wins → List Bout → Type 0
IsRowRead es i rounds results row = row ≡ row_of rounds results (take i es)

-- with the entries and the settings as they were read
pub read_next : {D : Type 0} {layout : Layout} (facts : DeviceFacts D) (old mid new : D) (h : HeaderParts) (i : ℕ) (hill next : Kept) (es : List HeaderEntry) (d : HeaderEntry) (w : WarriorParts) (results : List Wins) (row : List Bout) (s : RawSettings) (rounds : ℕ)
    → es ≡ h.entries → s ≡ h.settings → rounds ≡ s.rounds → i < length es → IsReadTo layout facts old mid h i hill → IsKept facts mid new → facts.faults new ≡ facts.faults mid → (facts.lawful mid → facts.disk new ≡ facts.disk mid)
    → WarriorRead layout facts mid s (get_or es i d).slot w → ResultsRead layout facts mid (get_or es i d).slot results → IsRowRead es i rounds results row
    → next ≡ kept_of hill.settings hill.counter (hill.members ++ member_of (get_or es i d).entry (get_or es i d).age w ∷ []) (hill.results ++ row ∷ [])
    → IsReadTo layout facts old new h (i + 1) next
read_next {layout = layout} facts old mid new h i hill next es d w results row s rounds same same_s same_rounds below read kept faultless same_disk warrior there is_row is =
    read_more facts old mid new h i hill next d w results (subst (λ xs. i < length xs) same below) read kept faultless same_disk
    (subst (λ x. WarriorRead layout facts mid x (get_or h.entries i d).slot w) same_s (subst (λ xs. WarriorRead layout facts mid s (get_or xs i d).slot w) same warrior))
    (subst (λ xs. ResultsRead layout facts mid (get_or xs i d).slot results) same there)
    (is ∙ ap (λ (xs : List HeaderEntry). kept_of hill.settings hill.counter (hill.members ++ member_of (get_or xs i d).entry (get_or xs i d).age w ∷ []) (hill.results ++ row ∷ [])) same
    ∙ ap (λ (r : List Bout). kept_of hill.settings hill.counter (hill.members ++ member_of (get_or h.entries i d).entry (get_or h.entries i d).age w ∷ []) (hill.results ++ r ∷ []))
    (is_row ∙ ap (λ n. row_of n results (take i es)) (same_rounds ∙ ap (λ (x : RawSettings). x.rounds) same_s) ∙ ap (λ (xs : List HeaderEntry). row_of h.settings.rounds results (take i xs)) same))

-- each result that is put back has all rounds
pub row_rounds : (rounds : ℕ) (results : List Wins) (es : List HeaderEntry) → FitRounds rounds results → All (λ e. e.slot < length results) es → All (λ b. rounds_in b ≡ rounds) (row_of rounds results es)
row_rounds rounds results [] fits within = All-nil (λ b. rounds_in b ≡ rounds)
row_rounds rounds results (e ∷ es) fits within =
    let low : e.slot < length results = All-head (λ x. x.slot < length results) e es within in
    let fit : (get_or results e.slot no_wins).older + (get_or results e.slot no_wins).younger ≤ rounds = All-get_or (λ w. w.older + w.younger ≤ rounds) results e.slot no_wins low fits in
    All-cons (λ b. rounds_in b ≡ rounds) (bout_of rounds (get_or results e.slot no_wins)) (row_of rounds results es) (omega (arith, fit))
    (row_rounds rounds results es fits (All-tail (λ x. x.slot < length results) e es within))

-- the entries before one of a header's have slots that there are results for
pub low_before : (h : HeaderParts) (es : List HeaderEntry) (i : ℕ) → es ≡ h.entries → IsHeaderParts h → All (λ e. e.slot ≤ 20) (take i es)
low_before h es i same is = All-take (λ e. e.slot ≤ 20) i es (subst (All (λ e. e.slot ≤ 20)) (sym same) (slots_low h is))

pub within_of : (n : ℕ) (es : List HeaderEntry) → n ≡ 21 → All (λ e. e.slot ≤ 20) es → All (λ e. e.slot < n) es
within_of n [] long low = All-nil (λ e. e.slot < n)
within_of n (e ∷ es) long low =
    let this : e.slot ≤ 20 = All-head (λ x. x.slot ≤ 20) e es low in
    All-cons (λ x. x.slot < n) e es (omega (arith, this, long)) (within_of n es long (All-tail (λ x. x.slot ≤ 20) e es low))

-- all that were read were put back
pub members_read : {D : Type 0} {layout : Layout} (facts : DeviceFacts D) (old now : D) (h : HeaderParts) (i : ℕ) (hill : Kept) (es : List HeaderEntry) → es ≡ h.entries → i < length es → IsReadTo layout facts old now h i hill → length hill.members ≡ i
members_read {layout = layout} facts old now h i hill es same below read =
    let count : length (take i h.entries) ≡ length hill.members = agree_length (take i h.entries) hill.members read.agree in
    let here : i < length h.entries = subst (λ xs. i < length xs) same below in
    let taken : length (take i h.entries) ≡ min i (length h.entries) = length-take i h.entries in
    omega arith

-- one was not read
pub read_failed : {D : Type 0} {layout : Layout} (facts : DeviceFacts D) (old mid new : D) (h : HeaderParts) (i : ℕ) (hill : Kept) (es : List HeaderEntry) (d : HeaderEntry) (s : RawSettings) (why : Unread) → es ≡ h.entries → s ≡ h.settings → i < length es → IsReadTo layout facts old mid h i hill → IsKept facts mid new → WarriorNotRead layout facts mid new s (get_or es i d).slot why → HillNotRead layout facts old new h why
read_failed {layout = layout} facts old mid new h i hill es d s Unread.Disk same same_s below read kept failed = rose_more facts old mid new read.kept.later kept.later failed
read_failed {layout = layout} facts old mid new h i hill es d s Unread.Memory same same_s below read kept failed = tt
read_failed {layout = layout} facts old mid new h i hill es d s Unread.Damaged same same_s below read kept failed = λ lawful. λ ms. λ held.
    let there = held_at layout h.settings (current (facts.disk old)) h.entries ms i d (subst (λ xs. i < length xs) same below) held in
    failed (read.kept.same_laws.1 lawful) there.0
    (subst (λ x. SlotHolds layout s (current x) (get_or es i d).slot there.0) (sym (read.same lawful))
    (subst (λ x. SlotHolds layout x (current (facts.disk old)) (get_or es i d).slot there.0) (sym same_s)
    (subst (λ xs. SlotHolds layout h.settings (current (facts.disk old)) (get_or xs i d).slot there.0) (sym same) there.1)))

-- all were read
pub read_all : {D : Type 0} {layout : Layout} (facts : DeviceFacts D) (old now : D) (h : HeaderParts) (i : ℕ) (hill : Kept) → length h.entries ≤ i → IsKeptHill hill → IsReadTo layout facts old now h i hill → HillRead layout facts old h hill
read_all {layout = layout} facts old now h i hill past kept read = record {
  kept = kept;
  named = record { settings = sym read.settings; counter = sym read.counter; entries = subst (λ xs. Agree xs hill.members) whole read.agree };
  held = λ lawful. subst (λ s. AllHeld layout s (current (facts.disk old)) h.entries hill.members) (sym read.settings) (subst (λ xs. AllHeld layout h.settings (current (facts.disk old)) xs hill.members) whole (read.held lawful));
  results = λ lawful. read.results lawful
      ∙ ap (results_read layout h.settings.rounds (current (facts.disk old))) whole
      ∙ ap (λ (s : RawSettings). results_read layout s.rounds (current (facts.disk old)) h.entries) (sym read.settings);
}
  where
    whole : take i h.entries ≡ h.entries
    whole = take_all i h.entries past

-- ---- what was decoded

pub same_read : (layout : Layout) (s : RawSettings) (sectors others : List (List ℕ)) (read : Option WarriorParts) → HoldsSame layout sectors others → s.length ≤ code_room layout → IsSlotRead new_layout s sectors read → IsSlotRead layout s others read
same_read layout s sectors others None same room none = λ w is. none w ((same.warriors s w room).1 is)
same_read layout s sectors others (Some w) same room is = (same.warriors s w room).0 is

pub decoded_some : {W E : Type 0} (found : Result (Option W) E) (w : W) (P : Option W → Type 0) → IsDecodedAs found (Ok w) → IfOk found P → P (Some w)
decoded_some (Ok (Some v)) w P is has = let same : Some v ≡ Some w = cc in subst P same has
decoded_some (Ok None) w P is has = cc
decoded_some (Err error) w P is has = cc

pub not_decoded : {D E : Type 0} (layout : Layout) (facts : DeviceFacts D) (old new : D) (s : RawSettings) (slot : ℕ) (found : Result (Option WarriorParts) E) (why : Unread) → IsDecodedAs found (Err why)
    → IfOk found (λ read. facts.lawful old → IsSlotRead layout s (slot_in layout (current (facts.disk old)) slot) read) → WarriorNotRead layout facts old new s slot why
not_decoded layout facts old new s slot (Ok (Some w)) why is has = cc
not_decoded layout facts old new s slot (Ok None) Unread.Damaged is has = has
not_decoded layout facts old new s slot (Ok None) Unread.Disk is has = cc
not_decoded layout facts old new s slot (Ok None) Unread.Memory is has = tt
not_decoded layout facts old new s slot (Err error) Unread.Memory is has = tt
not_decoded layout facts old new s slot (Err error) Unread.Disk is has = cc
not_decoded layout facts old new s slot (Err error) Unread.Damaged is has = cc
