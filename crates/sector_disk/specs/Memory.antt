-- The device in memory.
use Rattle.std.specs.Prelude.{◌≡◌, ℕ, ◌≤◌, List, [], length, take, replicate, slice_index, slice_index_or, slice_set, Result}
use Rattle.sector_disk.specs.{Facts.DeviceFacts, Served.IsServed, Disk.{Disk, last_of}, Image.{IsImage, started}}

-- a sector: its stable content, and the contents written since the last sync
pub record SectorState : Type 0 where
  pub stable : List ℕ
  pub written : List (List ℕ)

-- a device in memory, without where it lies
pub record MemoryState : Type 0 where
  pub sectors : List SectorState
  pub faults : ℕ

abbrev pub sector_of : List ℕ → List (List ℕ) → SectorState
sector_of stable written = record { stable = stable; written = written }

abbrev pub nothing : SectorState
nothing = sector_of [] []

abbrev pub disk_of : List SectorState → Disk
disk_of sectors = record { stable = λ n. (slice_index_or sectors n nothing).stable; written = λ n. (slice_index_or sectors n nothing).written }

abbrev pub memory_disk : MemoryState → Disk
memory_disk memory = disk_of memory.sectors

abbrev pub memory_size : MemoryState → ℕ
memory_size memory = length memory.sectors

-- it is always lawful
abbrev pub memory_facts : DeviceFacts MemoryState
memory_facts = record { size = memory_size; lawful = λ _. Unit {0}; disk = memory_disk; faults = λ memory. memory.faults }

-- what holds of each call of a device in memory
abbrev pub IsMemoryServed : {T E : Type 0} → MemoryState → MemoryState → Result T E → Type 0
IsMemoryServed old new result = IsServed memory_facts old new result

abbrev pub zeros : List ℕ
zeros = replicate 512 0

-- this many sectors, all of them zeros for good
abbrev pub blank : ℕ → MemoryState
blank sectors = record { sectors = replicate sectors (sector_of zeros []); faults = 0 }

-- one sector holds this content for good, and nothing that was written to it since
abbrev pub set_at : ℕ → List ℕ → MemoryState → MemoryState
set_at n content memory = record { sectors = slice_set memory.sectors n (sector_of content []); faults = memory.faults }

-- The content that a number names: 0 the stable one, k the k-th written since the last sync, a greater number the last of them.
abbrev pub chosen : List ℕ → List (List ℕ) → ℕ → List ℕ
chosen stable written k = last_of stable (take k written)

-- the image that a list of numbers names, one for each sector; a missing number is 0
abbrev pub chosen_image : List ℕ → Disk → ℕ → List ℕ
chosen_image choice disk n = chosen (disk.stable n) (disk.written n) (slice_index choice n)

-- the disk after a stop that left the image that the numbers name
abbrev pub stopped_at : List ℕ → Disk → Disk
stopped_at choice disk = started (chosen_image choice disk)

-- These numbers name the image: one for each sector, and none greater than the number of the sector's contents.
pub record Names (memory : MemoryState) (image : ℕ → List ℕ) (choice : List ℕ) : Type 0 where
  pub names : (n : ℕ) → image n ≡ chosen_image choice (memory_disk memory) n
  pub each_sector : length choice ≡ memory_size memory
  pub no_greater : (n : ℕ) → slice_index choice n ≤ length ((memory_disk memory).written n)

-- each image is one that some numbers name
abbrev pub EachImageIsChosen : MemoryState → Type 0
EachImageIsChosen memory = (image : ℕ → List ℕ) → IsImage (memory_disk memory) image → (choice : List ℕ) × Names memory image choice
