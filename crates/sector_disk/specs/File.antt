-- The device over a file. No contract can say what a file holds, so none of its laws of contents is claimed.
use Rattle.{std.specs.Prelude.{ℕ, [], Result}, sector_disk.specs.{Disk.Disk, Facts.DeviceFacts, Served.IsServed}}

-- a device over a file, without the file
pub record FileState : Type 0 where
  pub sectors : ℕ
  pub faults : ℕ

-- stands where a device has contents, and says nothing of a file's
abbrev pub untold : Disk
untold = record { stable = λ n. []; written = λ n. [] }

-- it is lawful in no contract
abbrev pub file_facts : DeviceFacts FileState
file_facts = record { size = λ file. file.sectors; lawful = λ _. ⊥; disk = λ _. untold; faults = λ file. file.faults }

-- what holds of each call of a device over a file
abbrev pub IsFileServed : {T E : Type 0} → FileState → FileState → Result T E → Type 0
IsFileServed old new result = IsServed file_facts old new result
