-- What contracts say of a device.
use Rattle.{std.specs.Prelude.ℕ, sector_disk.specs.Disk.Disk}

-- Of each device of a type: the number of its sectors, whether it keeps the laws of contents, what its sectors hold, and the number of
-- faults that it has counted.
pub record DeviceFacts (D : Type 0) : Type 1 where
  pub size : D → ℕ
  pub lawful : D → Type 0
  pub disk : D → Disk
  pub faults : D → ℕ
