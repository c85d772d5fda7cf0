-- What holds of each call of a device, lawful or not, and of any run of such calls.
use Rattle.std.specs.Prelude.{◌≡◌, ◌⊎◌, ◌-◌, ◌^◌, ◌<◌, ◌≤◌, ◌↔◌, Result, IsOk, IsErr}
use Rattle.sector_disk.specs.Facts.{DeviceFacts}

-- it failed in this call, or in one of these calls
abbrev pub Failed : {D : Type 0} → DeviceFacts D → D → D → Type 0
Failed facts old new = (facts.faults old < facts.faults new) ⊎ (facts.faults old ≡ 2 ^ 64 - 1)

-- What holds of each run of calls: the number of sectors stays, the device is as lawful as it was, and its count of faults doesn't fall.
pub record IsKept {D : Type 0} (facts : DeviceFacts D) (old new : D) : Type 0 where
  pub same_size : facts.size new ≡ facts.size old
  pub same_laws : facts.lawful new ↔ facts.lawful old
  pub later : facts.faults old ≤ facts.faults new

-- The number of sectors stays, and the device is as lawful as it was. A fault is counted if an Err is answered, and at no Ok. At the
-- greatest u64 the count stands still.
pub record IsServed {D T E : Type 0} (facts : DeviceFacts D) (old new : D) (result : Result T E) : Type 0 where
  pub same_size : facts.size new ≡ facts.size old
  pub same_laws : facts.lawful new ↔ facts.lawful old
  pub later : facts.faults old ≤ facts.faults new
  pub ok : IsOk result → facts.faults new ≡ facts.faults old
  pub err : IsErr result → Failed facts old new
