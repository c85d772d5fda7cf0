-- What becomes of the calls of a device with a fuse.
use Rattle.std.specs.Prelude.{◌≡◌, ℕ, ◌+◌, ◌-◌, ◌^◌, min, ◌==◌, if◌then◌else◌, List, Option, None, Some, Result, IsErr, OnOk}
use Rattle.sector_disk.specs.{declared.fuse.FuseKind.FuseKind, declared.fuse.Fate.Fate, declared.fuse.Fuse.Fuse, declared.fuse_device.FuseDevice.FuseDevice, Disk.{Disk, current}}
use Rattle.sector_disk.specs.{Changes.Changes, Facts.DeviceFacts, Served.IsServed}

-- the call at which a fuse burns
abbrev pub burning : FuseKind → Fate
burning FuseKind.Stop = Fate.Lost
burning FuseKind.FailLost = Fate.Lost
burning FuseKind.FailKept = Fate.Kept

abbrev pub left_burning : FuseKind → Option ℕ
left_burning FuseKind.Stop = Some 0
left_burning FuseKind.FailLost = None
left_burning FuseKind.FailKept = None

abbrev pub fate_at : FuseKind → Option ℕ → Fate
fate_at kind None = Fate.Passes
fate_at kind (Some left) = if left == 0 then burning kind else Fate.Passes

abbrev pub left_after : FuseKind → Option ℕ → Option ℕ
left_after kind None = None
left_after kind (Some left) = if left == 0 then left_burning kind else Some (left - 1)

-- what becomes of the next call: the fuse burns if no call is left to pass, and a fuse without a number passes all
abbrev pub fate_of : Fuse → Fate
fate_of fuse = fate_at fuse.kind fuse.left

-- the fuse after that call
abbrev pub fuse_after : Fuse → Fuse
fuse_after fuse = record { kind = fuse.kind; left = left_after fuse.kind fuse.left }

-- its faults are those of the device within and the fuse's own; all else is as within
abbrev pub fuse_facts : {D : Type 0} → DeviceFacts D → DeviceFacts (FuseDevice D)
fuse_facts facts = record {
  size = λ device. facts.size device.inner;
  lawful = λ device. facts.lawful device.inner;
  disk = λ device. facts.disk device.inner;
  faults = λ device. min (facts.faults device.inner + device.failed) (2 ^ 64 - 1);
}

-- what a write or a sync, or a run of them, made of a device
pub record IsChanged {D T E : Type 0} (facts : DeviceFacts D) (changes : List (Disk → Disk)) (old new : D) (result : Result T E) : Type 0 where
  pub served : IsServed facts old new result
  pub changes_made : facts.lawful old → Changes changes (facts.disk old) (facts.disk new) result

-- what a read of a sector made of a device, and what it gave
pub record IsRead {D T E : Type 0} (facts : DeviceFacts D) (n : ℕ) (content : List ℕ) (old new : D) (result : Result T E) : Type 0 where
  pub served : IsServed facts old new result
  pub kept : facts.lawful old → facts.disk new ≡ facts.disk old
  pub given : facts.lawful old → OnOk result (content ≡ current (facts.disk old) n)

-- What a call made of the device within. A call that passes makes of it what such a call does at this answer, and one that is lost nothing.
-- One that is kept makes of it what such a call does at an answer of its own, which an Err replaces.
abbrev pub IsFused : {D T E : Type 0} → Fate → (Result T E → Type 0) → D → D → Result T E → Type 0
IsFused Fate.Passes call old new result = call result
IsFused Fate.Lost call old new result = IsErr result × (new ≡ old)
IsFused {D} {T} {E} Fate.Kept call old new result = IsErr result × ((answer : Result T E) × call answer)
