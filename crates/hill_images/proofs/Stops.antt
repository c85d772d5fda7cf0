-- What a stop leaves in the midst of a commit, and of the calls that place a warrior.
use Rattle.{std.proofs.Common.{◌≡◌, ◌⊎◌, inl, inr, ℕ, ◌+◌, ◌%◌, ◌≤◌, List, ◌∷◌, length, sym, subst, ◌∙◌, arith}, war_types.specs.Warrior.WarriorParts, koth_hill.specs.Kept.Kept}
use Rattle.sector_disk.specs.{Disk.{Disk, current, wrote, synced, IsSettled}, Image.{Images, put}, Changes.{after, Begun}}
use Rattle.sector_disk.proofs.{Images.{current-wrote, images_read, images_write, images_settled, images_sync, settled-synced}, Runs.after-append}
use Rattle.{hill_bytes.specs.{declared.wins.Wins.Wins, Layout.{Layout, HeaderParts, IsHeaderParts, SlotIsFree, header_bytes, slot_at, slot_bytes}}, hill_bytes.proofs.SlotBytes.length-slot}
use Rattle.hill_images.specs.{Stands.{IsNewestIn, AllHeld, ShowsIn, IsReady, results_read}, Places.{slot_writes, commits, places}}
use Rattle.hill_images.proofs.{Sectors.{IsKeptBy, current-writes, images_writes, puts_keep, with_slot, writes_stopped}, Held.{Apart, apart_headers, apart_slot, held_elsewhere}}
use Rattle.hill_images.proofs.{Results.results-elsewhere, Newest.{parity_low, newest_elsewhere, newest_next}}

-- the image with a header
abbrev pub with_header : Layout → HeaderParts → (ℕ → List ℕ) → ℕ → List ℕ
with_header layout h image = put (h.generation % 2) (header_bytes layout h) image

-- a write past the headers, and outside of the slots named, leaves the hill
pub shows_elsewhere : {layout : Layout} (image : ℕ → List ℕ) (n : ℕ) (content : List ℕ) (h : HeaderParts) (hill : Kept) → 2 ≤ n → Apart layout n h.entries → ShowsIn layout image h hill → ShowsIn layout (put n content image) h hill
shows_elsewhere {layout} image n content h hill past apart is = record {
  newest = newest_elsewhere image n content h past is.newest;
  settings = is.settings;
  counter = is.counter;
  members = held_elsewhere layout hill.settings image n content h.entries hill.members apart is.members;
  results = is.results ∙ sym (results-elsewhere layout hill.settings.rounds image n content h.entries apart);
}

-- what the next header shows, once it is written, is what its slots held before
pub shows_next : {layout : Layout} (image : ℕ → List ℕ) (h next : HeaderParts) (hill : Kept) → IsHeaderParts next → next.settings ≡ h.settings → next.generation ≡ h.generation + 1 → next.settings ≡ hill.settings → next.counter ≡ hill.counter → IsNewestIn layout image h → AllHeld layout hill.settings image next.entries hill.members → hill.results ≡ results_read layout hill.settings.rounds image next.entries → ShowsIn layout (with_header layout next image) next hill
shows_next {layout} image h next hill fits same follows settings counter is held kept = record {
  newest = newest_next image h next fits same follows is;
  settings = settings;
  counter = counter;
  members = held_elsewhere layout hill.settings image (next.generation % 2) (header_bytes layout next) next.entries hill.members (apart_headers layout (next.generation % 2) next.entries (parity_low next.generation)) held;
  results = kept ∙ sym (results-elsewhere layout hill.settings.rounds image (next.generation % 2) (header_bytes layout next) next.entries (apart_headers layout (next.generation % 2) next.entries (parity_low next.generation)));
}

-- on a settled device that shows a hill by one header, another hill that it shows once the next header is written
pub record IsStep (layout : Layout) (image : ℕ → List ℕ) (h next : HeaderParts) (old new : Kept) : Type 0 where
  pub before : ShowsIn layout image h old
  pub behind : ShowsIn layout (with_header layout next image) next new

-- some header shows this hill or that
abbrev pub Either : Layout → HeaderParts → HeaderParts → Kept → Kept → (ℕ → List ℕ) → Type 0
Either layout h next old new image = ShowsIn layout image h old ⊎ ShowsIn layout image next new

-- a commit that was made in full
pub committed_of : {layout : Layout} (disk : Disk) (next : HeaderParts) (new : Kept) → ShowsIn layout (with_header layout next (current disk)) next new → IsReady layout (after (commits layout next) disk) next new
committed_of {layout} disk next new behind = record {
  settled = settled-synced (wrote (next.generation % 2) (header_bytes layout next) disk);
  shows = subst (λ image. ShowsIn layout image next new) (sym (current-wrote disk (next.generation % 2) (header_bytes layout next))) behind;
}

pub committed : {layout : Layout} (disk : Disk) (h next : HeaderParts) (old new : Kept) → IsStep layout (current disk) h next old new → IsReady layout (after (commits layout next) disk) next new
committed disk h next old new is = committed_of disk next new is.behind

-- a commit that was stopped
pub commit_stopped : {layout : Layout} (disk stopped : Disk) (h next : HeaderParts) (old new : Kept) → IsSettled disk → IsStep layout (current disk) h next old new → Begun (commits layout next) disk stopped → Images stopped (Either layout h next old new)
commit_stopped {layout} disk stopped h next old new settled is begun = elim begun [
  | inl none ↦ subst (λ d. Images d (Either layout h next old new)) (sym none) start
  | inr written ↦ elim written [
    | inl header ↦ subst (λ d. Images d (Either layout h next old new)) (sym header) between
    | inr all ↦ subst (λ d. Images d (Either layout h next old new)) (sym all) (images_sync (wrote n bytes disk) (Either layout h next old new) (images_read (wrote n bytes disk) (Either layout h next old new) between))
  ]
]
  where
    n : ℕ
    n = next.generation % 2

    bytes : List ℕ
    bytes = header_bytes layout next

    start : Images disk (Either layout h next old new)
    start = images_settled disk (Either layout h next old new) settled (inl is.before)

    between : Images (wrote n bytes disk) (Either layout h next old new)
    between = images_write disk n bytes (Either layout h next old new) start (images_settled disk (λ image. Either layout h next old new (put n bytes image)) settled (inr is.behind))

-- writes to a free slot leave the hill
pub slot_kept : (layout : Layout) (slot : ℕ) (h : HeaderParts) (hill : Kept) → SlotIsFree slot h.entries → IsKeptBy (λ image. ShowsIn layout image h hill) (slot_at layout slot) (slot_at layout slot + (layout.full + 1))
slot_kept layout slot h hill free m content image from to is = shows_elsewhere image m content h hill (omega (arith, from)) (apart_slot layout m slot h.entries from to free) is

pub slot_room : (layout : Layout) (slot : ℕ) (w : WarriorParts) (results : List Wins) → slot_at layout slot + length (slot_bytes layout w results) ≤ slot_at layout slot + (layout.full + 1)
slot_room layout slot w results = omega (arith, length-slot layout w results)

-- a warrior was written to one
pub slot_written : {layout : Layout} (image : ℕ → List ℕ) (slot : ℕ) (w : WarriorParts) (results : List Wins) (h : HeaderParts) (hill : Kept) → SlotIsFree slot h.entries → ShowsIn layout image h hill → ShowsIn layout (with_slot layout slot w results image) h hill
slot_written {layout} image slot w results h hill free is =
    puts_keep (λ other. ShowsIn layout other h hill) (slot_at layout slot) (slot_at layout slot + (layout.full + 1)) (slot_bytes layout w results) image (slot_room layout slot w results)
    (slot_kept layout slot h hill free) is

-- what is read once the sectors of a slot were written
pub current-slot : (layout : Layout) (disk : Disk) (slot : ℕ) (w : WarriorParts) (results : List Wins) → current (after (slot_writes layout slot w results) disk) ≡ with_slot layout slot w results (current disk)
current-slot layout disk slot w results = current-writes (slot_at layout slot) (slot_bytes layout w results) disk

-- on a settled device that shows a hill, a warrior for a free slot, and the header after it with the hill that it shows then
pub record IsPlacing (layout : Layout) (disk : Disk) (h next : HeaderParts) (slot : ℕ) (w : WarriorParts) (results : List Wins) (old new : Kept) : Type 0 where
  pub settled : IsSettled disk
  pub before : ShowsIn layout (current disk) h old
  pub free : SlotIsFree slot h.entries
  pub behind : ShowsIn layout (with_header layout next (with_slot layout slot w results (current disk))) next new

-- with the slot written and synced there is left the commit alone
pub step_left : {layout : Layout} (disk : Disk) (h next : HeaderParts) (slot : ℕ) (w : WarriorParts) (results : List Wins) (old new : Kept) → IsPlacing layout disk h next slot w results old new → IsStep layout (current (synced (after (slot_writes layout slot w results) disk))) h next old new
step_left {layout} disk h next slot w results old new is = record {
  before = subst (λ image. ShowsIn layout image h old) (sym (current-slot layout disk slot w results)) (slot_written (current disk) slot w results h old is.free is.before);
  behind = subst (λ image. ShowsIn layout (with_header layout next image) next new) (sym (current-slot layout disk slot w results)) is.behind;
}

-- all calls were made in full
pub placed : {layout : Layout} (disk : Disk) (h next : HeaderParts) (slot : ℕ) (w : WarriorParts) (results : List Wins) (old new : Kept) → IsPlacing layout disk h next slot w results old new → IsReady layout (after (places layout next slot w results) disk) next new
placed {layout} disk h next slot w results old new is =
    subst (λ d. IsReady layout d next new) (sym (after-append (slot_writes layout slot w results) (synced ∷ commits layout next) disk))
    (committed (synced (after (slot_writes layout slot w results) disk)) h next old new (step_left disk h next slot w results old new is))

-- they were stopped
pub place_stopped : {layout : Layout} (disk stopped : Disk) (h next : HeaderParts) (slot : ℕ) (w : WarriorParts) (results : List Wins) (old new : Kept) → IsPlacing layout disk h next slot w results old new → Begun (places layout next slot w results) disk stopped → Images stopped (Either layout h next old new)
place_stopped {layout} disk stopped h next slot w results old new is begun = elim (writes_stopped Old at to sectors (synced ∷ commits layout next) disk stopped (slot_room layout slot w results) kept start begun) [
  | inl among ↦ to_either stopped among
  | inr behind ↦ elim behind [
    | inl whole ↦ to_either stopped (subst (λ d. Images d Old) (sym whole) (images_writes Old at to sectors disk (slot_room layout slot w results) kept start))
    | inr rest ↦ commit_stopped (synced (after (slot_writes layout slot w results) disk)) stopped h next old new (settled-synced (after (slot_writes layout slot w results) disk)) (step_left disk h next slot w results old new is) rest
  ]
]
  where
    at : ℕ
    at = slot_at layout slot

    to : ℕ
    to = slot_at layout slot + (layout.full + 1)

    sectors : List (List ℕ)
    sectors = slot_bytes layout w results

    Old : (ℕ → List ℕ) → Type 0
    Old image = ShowsIn layout image h old

    kept : IsKeptBy Old at to
    kept = slot_kept layout slot h old is.free

    start : Images disk Old
    start = images_settled disk Old is.settled is.before

    to_either : (d : Disk) → Images d Old → Images d (Either layout h next old new)
    to_either d each image is_one = inl (each image is_one)
