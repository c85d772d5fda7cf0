-- What opening a hill finds on a device of either format, and what writing one to a device that holds none makes of it.
use Rattle.std.specs.Prelude.{◌≡◌, ◌⊎◌, ℕ, ◌%◌, ◌<◌, ◌≤◌, Bool, true, false, List, [], ◌∷◌}
use Rattle.{war_types.specs.{declared.settings.RawSettings.RawSettings, Settings.AreSettings}, koth_hill.specs.Kept.{Kept, new_kept}}
use Rattle.sector_disk.specs.{Facts.DeviceFacts, Disk.{Disk, current, synced}, Image.{IsImage, Images}, Changes.Begun, Served.Failed}
use Rattle.hill_bytes.specs.{declared.format.Format.Format, Layout.{Layout, HeaderParts, header_parts, IsHeader, layout_of, new_layout, old_layout, sectors_in}}
use Rattle.hill_images.specs.{declared.refusal.Refusal.Refusal, Stands.{IsNewestIn, ShowsIn, Reads, IsReady}, Named.IsSoundIn}

-- no sector holds a valid header of this layout
abbrev pub HoldsNoneIn : Layout → (ℕ → List ℕ) → Type 0
HoldsNoneIn layout image = (h : HeaderParts) → IsHeader layout (image (h.generation % 2)) h → ⊥

-- no sector holds one of either format
abbrev pub HoldsNone : (ℕ → List ℕ) → Type 0
HoldsNone image = (format : Format) → HoldsNoneIn (layout_of format) image

-- a sector holds a valid header of a format
pub record HoldsHeader (image : ℕ → List ℕ) : Type 0 where
  pub format : Format
  pub header : HeaderParts
  pub here : IsHeader (layout_of format) (image (header.generation % 2)) header

-- whether one does
abbrev pub HoldsOneIf : (ℕ → List ℕ) → Bool → Type 0
HoldsOneIf image true = HoldsHeader image
HoldsOneIf image false = HoldsNone image

-- a sector holds a valid header of the old format
abbrev pub HoldsOld : (ℕ → List ℕ) → Type 0
HoldsOld image = (h : HeaderParts) × IsHeader old_layout (image (h.generation % 2)) h

-- whether one of the first two sectors does
abbrev pub HoldsOldIf : (ℕ → List ℕ) → Bool → Type 0
HoldsOldIf image true = HoldsOld image
HoldsOldIf image false = HoldsNoneIn old_layout image

-- the first header of a hill
abbrev pub first_header : RawSettings → HeaderParts
first_header s = header_parts 0 s 0 []

-- why a device that reads as this image is not opened
abbrev pub RefusesIn : Layout → ℕ → (ℕ → List ℕ) → Refusal → Type 0
RefusesIn layout size image Refusal.TooSmall = (size < 2) ⊎ ((h : HeaderParts) × IsNewestIn layout image h × (size < sectors_in layout h.settings.capacity))
RefusesIn layout size image Refusal.NotAHill = HoldsNoneIn layout image
RefusesIn layout size image Refusal.Damaged =
    (h : HeaderParts) × IsNewestIn layout image h × (sectors_in layout h.settings.capacity ≤ size) × ((hill : Kept) → ShowsIn layout image h hill → ⊥)
RefusesIn layout size image Refusal.Disk = Unit {0}
RefusesIn layout size image Refusal.Memory = Unit {0}
RefusesIn layout size image Refusal.Occupied = ⊥

-- no hill was opened, and nothing was written
pub record IsNotOpenedIn {D : Type 0} (layout : Layout) (facts : DeviceFacts D) (old new : D) (why : Refusal) : Type 0 where
  pub cause : why ≡ Refusal.Disk → Failed facts old new
  pub reason : facts.lawful old → RefusesIn layout (facts.size old) (current (facts.disk old)) why
  pub kept : facts.lawful old → Begun (synced ∷ []) (facts.disk old) (facts.disk new)

-- a refusal for another reason than a fault or a lack of memory: no call of the device failed before it
abbrev pub IsUnfaulted : {D : Type 0} → DeviceFacts D → D → D → Refusal → Type 0
IsUnfaulted facts old new Refusal.Disk = Unit {0}
IsUnfaulted facts old new Refusal.Memory = Unit {0}
IsUnfaulted facts old new Refusal.TooSmall = facts.faults new ≡ facts.faults old
IsUnfaulted facts old new Refusal.Occupied = facts.faults new ≡ facts.faults old
IsUnfaulted facts old new Refusal.NotAHill = facts.faults new ≡ facts.faults old
IsUnfaulted facts old new Refusal.Damaged = facts.faults new ≡ facts.faults old

-- ---- a hill is written to a device that held none

-- an image after that, if the device failed in it: one that was there before, one without a hill, or one that reads as
-- this hill
abbrev pub MayHold : Disk → ℕ → Kept → (ℕ → List ℕ) → Type 0
MayHold old size hill image = IsImage old image ⊎ (HoldsNone image ⊎ Reads size image hill)

-- the device failed in it
pub record IsWriteCut {D : Type 0} (facts : DeviceFacts D) (old : D) (hill : Kept) (new : D) : Type 0 where
  pub cause : Failed facts old new
  pub images : facts.lawful old → Images (facts.disk new) (MayHold (facts.disk old) (facts.size new) hill)
  pub occupied : facts.lawful old → HoldsHeader (current (facts.disk old)) → Begun (synced ∷ []) (facts.disk old) (facts.disk new)

-- it was written, under this header
pub record IsWritten {D : Type 0} (facts : DeviceFacts D) (old : D) (h : HeaderParts) (hill : Kept) (new : D) : Type 0 where
  pub was_none : facts.lawful old → HoldsNone (current (facts.disk old))
  pub ready : facts.lawful old → IsReady new_layout (facts.disk new) h hill

-- why it was not
abbrev pub IsNotWritten : {D : Type 0} → DeviceFacts D → D → Kept → D → Refusal → Type 0
IsNotWritten facts old hill new Refusal.Disk = IsWriteCut facts old hill new
IsNotWritten facts old hill new Refusal.Occupied =
    facts.lawful old → HoldsHeader (current (facts.disk old)) × (facts.disk new ≡ synced (facts.disk old))
IsNotWritten facts old hill new Refusal.TooSmall = ⊥
IsNotWritten facts old hill new Refusal.Memory = ⊥
IsNotWritten facts old hill new Refusal.NotAHill = ⊥
IsNotWritten facts old hill new Refusal.Damaged = ⊥

-- the first header of a hill was written
pub record IsFirst {D : Type 0} (facts : DeviceFacts D) (old : D) (s : RawSettings) (new : D) (h : HeaderParts) : Type 0 where
  pub settings : AreSettings s
  pub first : h ≡ first_header s
  pub written : IsWritten facts old h (new_kept s 0) new

-- a hill was recovered
pub record IsRecovered {D : Type 0} (layout : Layout) (facts : DeviceFacts D) (old new : D) (h : HeaderParts) (hill : Kept) (arena : RawSettings) : Type 0 where
  pub sound : IsSoundIn layout facts new h hill arena false
  pub shows : facts.lawful old → ShowsIn layout (current (facts.disk old)) h hill
  pub room : sectors_in layout hill.settings.capacity ≤ facts.size old
  pub synced_now : facts.lawful old → facts.disk new ≡ synced (facts.disk old)

-- ---- in the new layout

abbrev pub IsNotOpened : {D : Type 0} → DeviceFacts D → D → D → Refusal → Type 0
IsNotOpened facts old new why = IsNotOpenedIn new_layout facts old new why
