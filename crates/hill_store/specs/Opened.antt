-- What creating and opening a store makes of a device, and what moving a hill from one of the old format makes of both.
use Rattle.std.specs.Prelude.{◌≡◌, ◌<◌, ◌≤◌, false}
use Rattle.{war_types.specs.declared.settings.RawSettings.RawSettings, koth_hill.specs.{Step.new_hill, Kept.{Kept, new_kept}}}
use Rattle.{sector_disk.specs.{Facts.DeviceFacts, Disk.{current, synced}, Image.Images}, hill_bytes.specs.Layout.{HeaderParts, old_layout, sectors_for}}
use Rattle.hill_images.specs.{declared.refusal.Refusal.Refusal, Stands.{IsNewest, IsNewestIn, Reads, ReadsIn, Stands}, Opening.{HoldsNone, IsNotOpenedIn, IsNotWritten}}
use Rattle.hill_store.specs.{declared.migration.MigrateFault.MigrateFault, declared.migration.MigrateSide.MigrateSide, Seen.{HasNewest, Seen}}

-- a hill was created: its first header was written, and no call of the device failed
pub record IsCreated {D : Type 0} (facts : DeviceFacts D) (old : D) (s : RawSettings) (store : Seen D) : Type 0 where
  pub hill : store.hill ≡ new_kept s 0
  pub generation : store.generation ≡ 0
  pub faultless : facts.faults store.device ≡ facts.faults old
  pub open_now : store.reopen ≡ false
  pub was_none : facts.lawful old → HoldsNone (current (facts.disk old))
  pub newest : facts.lawful old → Images (facts.disk store.device) (λ image. HasNewest image store.generation)
  pub stands : facts.lawful old → Images (facts.disk store.device) (λ image. Stands (facts.size store.device) image (new_hill s 0))

-- why no hill was created, and what became of the device
abbrev pub IsNotCreated : {D : Type 0} → DeviceFacts D → D → RawSettings → D → Refusal → Type 0
IsNotCreated facts old s new Refusal.TooSmall = (facts.size old < sectors_for s.capacity) × (new ≡ old)
IsNotCreated facts old s new Refusal.Memory = new ≡ old
IsNotCreated facts old s new Refusal.Disk = IsNotWritten facts old (new_kept s 0) new Refusal.Disk
IsNotCreated facts old s new Refusal.Occupied = IsNotWritten facts old (new_kept s 0) new Refusal.Occupied
IsNotCreated facts old s new Refusal.NotAHill = ⊥
IsNotCreated facts old s new Refusal.Damaged = ⊥

-- the hill was opened that the device reads as, with the results that stand there, true or not; nothing that was read
-- can be lost, and no call of the device failed
pub record IsOpened {D : Type 0} (facts : DeviceFacts D) (old : D) (store : Seen D) : Type 0 where
  pub open_now : store.reopen ≡ false
  pub generation : facts.lawful old → (h : HeaderParts) × IsNewest (current (facts.disk old)) h × (store.generation ≡ h.generation)
  pub faultless : facts.faults store.device ≡ facts.faults old
  pub synced_now : facts.lawful old → facts.disk store.device ≡ synced (facts.disk old)
  pub reads_as : facts.lawful old → Reads (facts.size old) (current (facts.disk old)) store.hill
  pub reads : facts.lawful old → Images (facts.disk store.device) (λ image. Reads (facts.size store.device) image store.hill)

-- ---- from a device of the old format to another

-- the hill of the old device: nothing that was read of it can be lost, and no call of it failed
pub record IsReadOf {O : Type 0} (facts : DeviceFacts O) (old after : O) (hill : Kept) : Type 0 where
  pub faultless : facts.faults after ≡ facts.faults old
  pub synced_now : facts.lawful old → facts.disk after ≡ synced (facts.disk old)
  pub reads_as : facts.lawful old → ReadsIn old_layout (facts.size old) (current (facts.disk old)) hill

-- it was moved: the new device held none, and reads as it now, with the results that stood on the old one, true or not,
-- and the generation of its header
pub record IsMigrated {O D : Type 0} (old_facts : DeviceFacts O) (facts : DeviceFacts D) (old after : O) (new : D) (store : Seen D) : Type 0 where
  pub read : IsReadOf old_facts old after store.hill
  pub generation : old_facts.lawful old → (h : HeaderParts) × IsNewestIn old_layout (current (old_facts.disk old)) h × (store.generation ≡ h.generation)
  pub open_now : store.reopen ≡ false
  pub faultless : facts.faults store.device ≡ facts.faults new
  pub was_none : facts.lawful new → HoldsNone (current (facts.disk new))
  pub newest : facts.lawful new → Images (facts.disk store.device) (λ image. HasNewest image store.generation)
  pub reads : facts.lawful new → Images (facts.disk store.device) (λ image. Reads (facts.size store.device) image store.hill)

-- why the new device did not take it, and what became of that
abbrev pub IsNotTaken : {D : Type 0} → DeviceFacts D → D → Kept → D → Refusal → Type 0
IsNotTaken facts new hill after Refusal.TooSmall = (facts.size new < sectors_for hill.settings.capacity) × (after ≡ new)
IsNotTaken facts new hill after Refusal.Disk = (sectors_for hill.settings.capacity ≤ facts.size new) × IsNotWritten facts new hill after Refusal.Disk
IsNotTaken facts new hill after Refusal.Occupied = (sectors_for hill.settings.capacity ≤ facts.size new) × IsNotWritten facts new hill after Refusal.Occupied
IsNotTaken facts new hill after Refusal.Memory = ⊥
IsNotTaken facts new hill after Refusal.NotAHill = ⊥
IsNotTaken facts new hill after Refusal.Damaged = ⊥

-- one of the devices was refused, and for this reason
abbrev pub IsNotMigratedBy : {O D : Type 0} → DeviceFacts O → DeviceFacts D → O → O → D → D → Refusal → MigrateSide → Type 0
IsNotMigratedBy old_facts facts old old_after new new_after why MigrateSide.Old = IsNotOpenedIn old_layout old_facts old old_after why × (new_after ≡ new)
IsNotMigratedBy old_facts facts old old_after new new_after why MigrateSide.New = (hill : Kept) × IsReadOf old_facts old old_after hill × IsNotTaken facts new hill new_after why

abbrev pub IsNotMigrated : {O D : Type 0} → DeviceFacts O → DeviceFacts D → O → O → D → D → MigrateFault → Type 0
IsNotMigrated old_facts facts old old_after new new_after fault = IsNotMigratedBy old_facts facts old old_after new new_after fault.refusal fault.side
