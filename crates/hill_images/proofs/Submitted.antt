-- A submission that is placed or falls: its header, its hill, and what every image then stands for.
use Rattle.std.proofs.Common.{◌≡◌, ◌≢◌, ◌⊎◌, inl, inr, ℕ, ◌+◌, ◌-◌, ◌^◌, ◌<◌, ◌≤◌, Bool, true, false, if◌then◌else◌, List, [], ◌∷◌, ◌++◌, length, All, Option, refl, sym, ap, subst, arith}
use Rattle.std.proofs.{lemmas.Bool.{cond-true, cond-false}, lemmas.List.Elements.{All-nil, All-cons, All-head, All-tail}}
use Rattle.war_types.specs.{declared.settings.RawSettings.RawSettings, Settings.AreSettings, Warrior.{WarriorParts, Fits}}
use Rattle.koth_hill.specs.{Hill.{Member, Hill, IsHill, MayStand, RiseFrom}, Step.{is_entry, without, one_older, challenger, falling_by, stays_by, after_stay, after_fall}}
use Rattle.{koth_hill.specs.Kept.{Kept, hill_in, fresh, known, verdict_kept, kept_stay, kept_fall, step_kept, IsKept}, koth_hill.proofs.RowsKept.matches-rounds}
use Rattle.{koth_hill.proofs.Verdicts.{verdict-stays, verdict-falls, verdict-entry, verdict-bouts}, sector_disk.specs.{Disk.{Disk, current}, Image.Images, Changes.{after, Begun}}}
use Rattle.{sector_disk.proofs.Images.images_settled, hill_bytes.specs.{declared.header.HeaderEntry.HeaderEntry, declared.wins.Wins.Wins}}
use Rattle.hill_bytes.specs.Layout.{HeaderParts, IsHeaderParts, IsEntry, IsSlot, EntriesRise, SlotsDiffer, SlotIsFree, IsTitled, Layout, sectors_in, slot_bytes}
use Rattle.hill_bytes.proofs.Results.{slot-written}
use Rattle.hill_images.specs.{Stands.{ReadsIn, IsReady}, Named.{Agree, IsNamed}, Places.{kept_entries, new_entry, header_placed, header_passed, results_by_slot, commits, places}}
use Rattle.hill_images.proofs.{Stops.{Either, IsStep, IsPlacing, committed, commit_stopped, placed, place_stopped}, Results.{length-by_slot, fits-by_slot}}
use Rattle.hill_images.proofs.Nexts.{agree_length, shows_placed, shows_passed}

-- the verdict and the step are of one mind
pub verdict_is : (k : Kept) (w : WarriorParts) → ((verdict_kept k w).stays ≡ stays_by (known k w) (hill_in k) w) × ((verdict_kept k w).falls ≡ falling_by (known k w) (hill_in k) w) × ((verdict_kept k w).entry ≡ k.counter + 1)
verdict_is k w = (
  verdict-stays (known k w) (fresh k w) (hill_in k) w,
  verdict-falls (known k w) (fresh k w) (hill_in k) w,
  verdict-entry (known k w) (fresh k w) (hill_in k) w,
)

pub verdict_bouts : (k : Kept) (w : WarriorParts) → (verdict_kept k w).bouts ≡ fresh k w
verdict_bouts k w = verdict-bouts (known k w) (fresh k w) (hill_in k) w

pub step_stays : (k : Kept) (w : WarriorParts) → stays_by (known k w) (hill_in k) w ≡ true → step_kept k w ≡ kept_stay k w (falling_by (known k w) (hill_in k) w)
step_stays k w is = cond-true (stays_by (known k w) (hill_in k) w) (kept_stay k w (falling_by (known k w) (hill_in k) w)) (kept_fall k) is

pub step_falls : (k : Kept) (w : WarriorParts) → stays_by (known k w) (hill_in k) w ≡ false → step_kept k w ≡ kept_fall k
step_falls k w is = cond-false (stays_by (known k w) (hill_in k) w) (kept_stay k w (falling_by (known k w) (hill_in k) w)) (kept_fall k) is

-- entries that agree with members rise, and are old, as those are
pub agree_rising : (before : ℕ) (es : List HeaderEntry) (ms : List Member) → Agree es ms → RiseFrom before ms → EntriesRise before es
agree_rising before [] [] agree rise = tt
agree_rising before [] (m ∷ ms) agree rise = absurd agree
agree_rising before (e ∷ es) [] agree rise = absurd agree
agree_rising before (e ∷ es) (m ∷ ms) agree rise =
    (subst (λ n. before < n) agree.0 rise.0, agree_rising e.entry es ms agree.2 (subst (λ n. RiseFrom n ms) agree.0 rise.1))

-- no slot is past these
abbrev pub SlotsUpTo : ℕ → List HeaderEntry → Type 0
SlotsUpTo capacity [] = Unit {0}
SlotsUpTo capacity (e ∷ es) = (e.slot ≤ capacity) × SlotsUpTo capacity es

pub agree_entries : (s : RawSettings) (capacity counter : ℕ) (es : List HeaderEntry) (ms : List Member) → Agree es ms → SlotsUpTo capacity es → All (MayStand s counter) ms → All (IsEntry capacity counter) es
agree_entries s capacity counter [] [] agree slots may = All-nil (IsEntry capacity counter)
agree_entries s capacity counter [] (m ∷ ms) agree slots may = absurd agree
agree_entries s capacity counter (e ∷ es) [] agree slots may = absurd agree
agree_entries s capacity counter (e ∷ es) (m ∷ ms) agree slots may =
    let this : MayStand s counter m = All-head (MayStand s counter) m ms may in
    All-cons (IsEntry capacity counter) e es (record {
      entry = subst (λ n. n ≤ counter) agree.0 this.entry;
      slot = slots.0;
      age = subst (λ a. a ≤ counter - e.entry) agree.1 (subst (λ n. m.age ≤ counter - n) agree.0 this.age);
    }) (agree_entries s capacity counter es ms agree.2 slots.1 (All-tail (MayStand s counter) m ms may))

agree_choose : (falls : Bool) (e : HeaderEntry) (m : Member) (es : List HeaderEntry) (ms : List Member) → Agree es (one_older ms) → m.entry ≡ e.entry → m.age + 1 ≡ e.age → Agree (if falls then es else e ∷ es) (one_older (if falls then ms else m ∷ ms))
agree_choose true e m es ms others entry age = others
agree_choose false e m es ms others entry age = (entry, age, others)

-- they agree after a fall
pub agree_kept : (fallen : Option ℕ) (es : List HeaderEntry) (ms : List Member) → Agree es ms → Agree (kept_entries fallen es) (one_older (without fallen ms))
agree_kept fallen [] [] agree = tt
agree_kept fallen [] (m ∷ ms) agree = absurd agree
agree_kept fallen (e ∷ es) [] agree = absurd agree
agree_kept fallen (e ∷ es) (m ∷ ms) agree =
    subst (λ b. Agree (kept_entries fallen (e ∷ es)) (one_older (if b then without fallen ms else m ∷ without fallen ms)))
    (ap (λ n. is_entry n fallen) (sym agree.0))
    (agree_choose (is_entry e.entry fallen) (record { entry = e.entry; slot = e.slot; age = e.age + 1 }) m (kept_entries fallen es) (without fallen ms)
    (agree_kept fallen es ms agree.2) agree.0 (ap (λ n. n + 1) agree.1))

pub agree_more : (es : List HeaderEntry) (ms : List Member) (e : HeaderEntry) (m : Member) → Agree es ms → m.entry ≡ e.entry → m.age ≡ e.age → Agree (es ++ e ∷ []) (ms ++ m ∷ [])
agree_more [] [] e m agree entry age = (entry, age, tt)
agree_more [] (x ∷ ms) e m agree entry age = absurd agree
agree_more (x ∷ es) [] e m agree entry age = absurd agree
agree_more (x ∷ es) (y ∷ ms) e m agree entry age = (agree.0, agree.1, agree_more es ms e m agree.2 entry age)

-- slots of those that stay and of one more
free_choose : (falls : Bool) (slot : ℕ) (e : HeaderEntry) (es : List HeaderEntry) → e.slot ≢ slot → SlotIsFree slot es → SlotIsFree slot (if falls then es else e ∷ es)
free_choose true slot e es other free = free
free_choose false slot e es other free = (other, free)

free_kept : (fallen : Option ℕ) (slot : ℕ) (es : List HeaderEntry) → SlotIsFree slot es → SlotIsFree slot (kept_entries fallen es)
free_kept fallen slot [] free = tt
free_kept fallen slot (e ∷ es) free = free_choose (is_entry e.entry fallen) slot (record { entry = e.entry; slot = e.slot; age = e.age + 1 }) (kept_entries fallen es) free.0 (free_kept fallen slot es free.1)

differ_choose : (falls : Bool) (e : HeaderEntry) (es : List HeaderEntry) → SlotIsFree e.slot es → SlotsDiffer es → SlotsDiffer (if falls then es else e ∷ es)
differ_choose true e es free differ = differ
differ_choose false e es free differ = (free, differ)

differ_kept : (fallen : Option ℕ) (es : List HeaderEntry) → SlotsDiffer es → SlotsDiffer (kept_entries fallen es)
differ_kept fallen [] differ = tt
differ_kept fallen (e ∷ es) differ = differ_choose (is_entry e.entry fallen) (record { entry = e.entry; slot = e.slot; age = e.age + 1 }) (kept_entries fallen es) (free_kept fallen e.slot es differ.0) (differ_kept fallen es differ.1)

free_more : (slot : ℕ) (es : List HeaderEntry) (e : HeaderEntry) → SlotIsFree slot es → e.slot ≢ slot → SlotIsFree slot (es ++ e ∷ [])
free_more slot [] e free other = (other, tt)
free_more slot (x ∷ es) e free other = (free.0, free_more slot es e free.1 other)

differ_more : (es : List HeaderEntry) (e : HeaderEntry) → SlotsDiffer es → SlotIsFree e.slot es → SlotsDiffer (es ++ e ∷ [])
differ_more [] e differ free = (tt, tt)
differ_more (x ∷ es) e differ free = (free_more x.slot es e differ.0 (λ same. free.0 (sym same)), differ_more es e differ.1 free.1)

first_slot : (capacity counter : ℕ) (e : HeaderEntry) (es : List HeaderEntry) → All (IsEntry capacity counter) (e ∷ es) → e.slot ≤ capacity
first_slot capacity counter e es are = let this : IsEntry capacity counter e = All-head (IsEntry capacity counter) e es are in this.slot

up_to_choose : (falls : Bool) (capacity : ℕ) (e : HeaderEntry) (es : List HeaderEntry) → e.slot ≤ capacity → SlotsUpTo capacity es → SlotsUpTo capacity (if falls then es else e ∷ es)
up_to_choose true capacity e es this others = others
up_to_choose false capacity e es this others = (this, others)

up_to_kept : (fallen : Option ℕ) (capacity counter : ℕ) (es : List HeaderEntry) → All (IsEntry capacity counter) es → SlotsUpTo capacity (kept_entries fallen es)
up_to_kept fallen capacity counter [] are = tt
up_to_kept fallen capacity counter (e ∷ es) are = up_to_choose (is_entry e.entry fallen) capacity (record { entry = e.entry; slot = e.slot; age = e.age + 1 }) (kept_entries fallen es) (first_slot capacity counter e es are) (up_to_kept fallen capacity counter es (All-tail (IsEntry capacity counter) e es are))

up_to_more : (capacity : ℕ) (es : List HeaderEntry) (e : HeaderEntry) → SlotsUpTo capacity es → e.slot ≤ capacity → SlotsUpTo capacity (es ++ e ∷ [])
up_to_more capacity [] e slots this = (this, tt)
up_to_more capacity (x ∷ es) e slots this = (slots.0, up_to_more capacity es e slots.1 this)

-- the header of a warrior that stays names those who are on the hill then
pub named_placed : (h : HeaderParts) (hill : Hill) (w : WarriorParts) (fallen : Option ℕ) (slot : ℕ) → IsNamed h hill → IsNamed (header_placed h fallen slot) (after_stay hill w fallen)
named_placed h hill w fallen slot named = record {
  settings = named.settings;
  counter = ap (λ n. n + 1) named.counter;
  entries = agree_more (kept_entries fallen h.entries) (one_older (without fallen hill.members)) (new_entry (h.counter + 1) slot) (challenger hill w) (agree_kept fallen h.entries hill.members named.entries) (ap (λ n. n + 1) (sym named.counter)) refl;
}

pub named_passed : (h : HeaderParts) (hill : Hill) → IsNamed h hill → IsNamed (header_passed h) (after_fall hill)
named_passed h hill named = record { settings = named.settings; counter = ap (λ n. n + 1) named.counter; entries = named.entries }

-- a header that names the warriors of a hill keeps what a header has to, if its slots do
pub header_fits : (h : HeaderParts) (hill : Hill) → IsHill hill → IsNamed h hill → h.generation ≤ 2 ^ 64 - 1 → h.counter ≤ h.generation → SlotsUpTo h.settings.capacity h.entries → SlotsDiffer h.entries → IsHeaderParts h
header_fits h hill is named generation counter slots differ = record {
  settings = subst (λ s. AreSettings s) (sym named.settings) is.settings;
  generation = generation;
  counter = counter;
  few = subst (λ n. n ≤ h.settings.capacity) (sym (agree_length h.entries hill.members named.entries)) (subst (λ s. length hill.members ≤ s.capacity) (sym named.settings) is.room);
  rising = agree_rising 0 h.entries hill.members named.entries is.rising;
  entries = agree_entries hill.settings h.settings.capacity h.counter h.entries hill.members named.entries slots (subst (λ n. All (MayStand hill.settings n) hill.members) (sym named.counter) is.members);
  slots = differ;
}

pub placed_fits : (h : HeaderParts) (hill : Hill) (w : WarriorParts) (fallen : Option ℕ) (slot : ℕ) → IsHeaderParts h → IsNamed h hill → IsHill (after_stay hill w fallen) → h.generation < 2 ^ 64 - 1 → SlotIsFree slot h.entries → slot ≤ h.settings.capacity → IsHeaderParts (header_placed h fallen slot)
placed_fits h hill w fallen slot is named hill_fits more free slot_fits =
    header_fits (header_placed h fallen slot) (after_stay hill w fallen) hill_fits (named_placed h hill w fallen slot named) (omega (arith, more)) (let below : h.counter ≤ h.generation = is.counter in omega arith)
    (up_to_more h.settings.capacity (kept_entries fallen h.entries) (new_entry (h.counter + 1) slot) (up_to_kept fallen h.settings.capacity h.counter h.entries is.entries) slot_fits)
    (differ_more (kept_entries fallen h.entries) (new_entry (h.counter + 1) slot) (differ_kept fallen h.entries is.slots) (free_kept fallen slot h.entries free))

up_to_all : (capacity counter : ℕ) (es : List HeaderEntry) → All (IsEntry capacity counter) es → SlotsUpTo capacity es
up_to_all capacity counter [] are = tt
up_to_all capacity counter (e ∷ es) are = (first_slot capacity counter e es are, up_to_all capacity counter es (All-tail (IsEntry capacity counter) e es are))

-- a fall changes the counter alone
may_more : (s : RawSettings) (counter : ℕ) (ms : List Member) → All (MayStand s counter) ms → All (MayStand s (counter + 1)) ms
may_more s counter [] may = All-nil (MayStand s (counter + 1))
may_more s counter (m ∷ ms) may =
    let this : MayStand s counter m = All-head (MayStand s counter) m ms may in
    All-cons (MayStand s (counter + 1)) m ms (record {
      entry = (let low : m.entry ≤ counter = this.entry in omega arith);
      age = (let low : m.age ≤ counter - m.entry = this.age in omega arith);
      fits = this.fits;
    }) (may_more s counter ms (All-tail (MayStand s counter) m ms may))

pub hill_passed : (hill : Hill) → IsHill hill → IsHill (after_fall hill)
hill_passed hill is = record { settings = is.settings; room = is.room; rising = is.rising; members = may_more hill.settings hill.counter hill.members is.members }

pub passed_fits : (h : HeaderParts) (hill : Hill) → IsHeaderParts h → IsNamed h hill → IsHill hill → h.generation < 2 ^ 64 - 1 → IsHeaderParts (header_passed h)
passed_fits h hill is named hill_fits more =
    header_fits (header_passed h) (after_fall hill) (hill_passed hill hill_fits) (named_passed h hill named) (omega (arith, more)) (let below : h.counter ≤ h.generation = is.counter in omega arith)
    (up_to_all h.settings.capacity h.counter h.entries is.entries) is.slots

-- a ready device reads as its hill
pub ready_reads : {layout : Layout} (size : ℕ) (disk : Disk) (h : HeaderParts) (hill : Kept) → sectors_in layout hill.settings.capacity ≤ size → IsReady layout disk h hill → Images disk (λ image. ReadsIn layout size image hill)
ready_reads {layout} size disk h hill room ready = images_settled disk (λ image. ReadsIn layout size image hill) ready.settled (record { header = h; shows = ready.shows; room = room })

either_reads : (layout : Layout) (size : ℕ) (disk : Disk) (h next : HeaderParts) (old new : Kept) → sectors_in layout old.settings.capacity ≤ size → sectors_in layout new.settings.capacity ≤ size → Images disk (Either layout h next old new) → Images disk (λ image. ReadsIn layout size image old ⊎ ReadsIn layout size image new)
either_reads layout size disk h next old new old_room new_room each image is = elim (each image is) [
  | inl shows ↦ inl (record { header = h; shows = shows; room = old_room })
  | inr shows ↦ inr (record { header = next; shows = shows; room = new_room })
]

-- what a warrior that stays needs of a ready device
pub record MayPlace (layout : Layout) (disk : Disk) (h : HeaderParts) (hill : Kept) (w : WarriorParts) (fallen : Option ℕ) (slot : ℕ) : Type 0 where
  pub ready : IsReady layout disk h hill
  pub free : SlotIsFree slot h.entries
  pub fits : Fits hill.settings w
  pub titled : IsTitled w
  pub kept : IsKept hill
  pub before : IsHeaderParts h
  pub header : IsHeaderParts (header_placed h fallen slot)

-- its results, by the slots of those on the hill
abbrev pub results_of : HeaderParts → Kept → WarriorParts → List Wins
results_of h hill w = results_by_slot h.entries (fresh hill w)

-- the sectors that are written are a slot's
written_slot : {layout : Layout} (disk : Disk) (h : HeaderParts) (hill : Kept) (w : WarriorParts) (fallen : Option ℕ) (slot : ℕ) → MayPlace layout disk h hill w fallen slot → IsSlot layout hill.settings (slot_bytes layout w (results_of h hill w)) w
written_slot {layout} disk h hill w fallen slot may =
    slot-written layout hill.settings w (results_of h hill w) may.kept.hill.settings may.fits may.titled (length-by_slot h.entries (fresh hill w))
    (fits-by_slot hill.settings.rounds h.entries (fresh hill w) (matches-rounds hill.settings hill.members w))

placing : {layout : Layout} (disk : Disk) (h : HeaderParts) (hill : Kept) (w : WarriorParts) (fallen : Option ℕ) (slot : ℕ) → MayPlace layout disk h hill w fallen slot → IsPlacing layout disk h (header_placed h fallen slot) slot w (results_of h hill w) hill (kept_stay hill w fallen)
placing disk h hill w fallen slot may = record {
  settled = may.ready.settled;
  before = may.ready.shows;
  free = may.free;
  behind = shows_placed (current disk) h hill fallen slot w may.free (written_slot disk h hill w fallen slot may) may.before may.header may.kept may.ready.shows;
}

pub ready_placed : {layout : Layout} (disk new : Disk) (h : HeaderParts) (hill : Kept) (w : WarriorParts) (fallen : Option ℕ) (slot : ℕ) → MayPlace layout disk h hill w fallen slot → new ≡ after (places layout (header_placed h fallen slot) slot w (results_of h hill w)) disk → IsReady layout new (header_placed h fallen slot) (kept_stay hill w fallen)
ready_placed {layout} disk new h hill w fallen slot may made =
    subst (λ d. IsReady layout d (header_placed h fallen slot) (kept_stay hill w fallen)) (sym made)
    (placed disk h (header_placed h fallen slot) slot w (results_of h hill w) hill (kept_stay hill w fallen) (placing disk h hill w fallen slot may))

pub cut_placed : {layout : Layout} (size : ℕ) (disk new : Disk) (h : HeaderParts) (hill : Kept) (w : WarriorParts) (fallen : Option ℕ) (slot : ℕ) → sectors_in layout hill.settings.capacity ≤ size → MayPlace layout disk h hill w fallen slot → Begun (places layout (header_placed h fallen slot) slot w (results_of h hill w)) disk new → Images new (λ image. ReadsIn layout size image hill ⊎ ReadsIn layout size image (kept_stay hill w fallen))
cut_placed {layout} size disk new h hill w fallen slot room may begun =
    either_reads layout size new h (header_placed h fallen slot) hill (kept_stay hill w fallen) room room
    (place_stopped disk new h (header_placed h fallen slot) slot w (results_of h hill w) hill (kept_stay hill w fallen) (placing disk h hill w fallen slot may) begun)

passing : {layout : Layout} (disk : Disk) (h : HeaderParts) (hill : Kept) → IsReady layout disk h hill → IsHeaderParts (header_passed h) → IsStep layout (current disk) h (header_passed h) hill (kept_fall hill)
passing disk h hill ready fits = record { before = ready.shows; behind = shows_passed (current disk) h hill fits ready.shows }

pub ready_passed : {layout : Layout} (disk new : Disk) (h : HeaderParts) (hill : Kept) → IsReady layout disk h hill → IsHeaderParts (header_passed h) → new ≡ after (commits layout (header_passed h)) disk → IsReady layout new (header_passed h) (kept_fall hill)
ready_passed {layout} disk new h hill ready fits made =
    subst (λ d. IsReady layout d (header_passed h) (kept_fall hill)) (sym made) (committed disk h (header_passed h) hill (kept_fall hill) (passing disk h hill ready fits))

pub cut_passed : {layout : Layout} (size : ℕ) (disk new : Disk) (h : HeaderParts) (hill : Kept) → sectors_in layout hill.settings.capacity ≤ size → IsReady layout disk h hill → IsHeaderParts (header_passed h) → Begun (commits layout (header_passed h)) disk new → Images new (λ image. ReadsIn layout size image hill ⊎ ReadsIn layout size image (kept_fall hill))
cut_passed {layout} size disk new h hill room ready fits begun =
    either_reads layout size new h (header_passed h) hill (kept_fall hill) room room
    (commit_stopped disk new h (header_passed h) hill (kept_fall hill) ready.settled (passing disk h hill ready fits) begun)
