-- What was read of a hill while a store may have written it, and which hill that is.
use Rattle.std.specs.Prelude.{◌≡◌, ℕ, ◌<◌, ◌≤◌, Bool, true, false, List}
use Rattle.sector_disk.specs.{Facts.DeviceFacts, Disk.current, Memory.{MemoryState, memory_disk, memory_size}, Served.Failed}
use Rattle.{hill_file.specs.declared.sector_file.Headers.Headers, hill_bytes.specs.Layout.{HeaderParts, new_layout}, koth_hill.specs.Kept.Kept}
use Rattle.hill_images.specs.{declared.refusal.Refusal.Refusal, Opening.RefusesIn, Stands.{IsNewest, Reads}}
use Rattle.hill_look.specs.{declared.refusal.LookRefusal.LookRefusal, Meanwhile.{IsFree, MovesOn, StoodAt}}

-- why sectors that read as this image are not opened
abbrev pub Refuses : ℕ → (ℕ → List ℕ) → Refusal → Type 0
Refuses size image why = RefusesIn new_layout size image why

-- what reads of a source give now
abbrev pub shown : {S : Type 0} → DeviceFacts S → S → ℕ → List ℕ
shown facts source = current (facts.disk source)

-- what was read into memory
abbrev pub taken : MemoryState → ℕ → List ℕ
taken memory = current (memory_disk memory)

-- each of these headers stood in its sector at a moment between two
pub record HeadersStood (old new : ℕ → List ℕ) (headers : Headers) : Type 0 where
  pub even : StoodAt old new 0 headers.even
  pub odd : StoodAt old new 1 headers.odd

-- so did these sectors of slots, each at a moment of its own
abbrev pub SlotsStood : (ℕ → List ℕ) → (ℕ → List ℕ) → MemoryState → Type 0
SlotsStood old new memory = (n : ℕ) → 2 ≤ n → n < memory_size memory → StoodAt old new n (taken memory n)

-- What was read: as it stood at one moment between two, but for the sectors of slots that no member of the newest
-- header had then.
pub record WasTaken (old new : ℕ → List ℕ) (memory : MemoryState) : Type 0 where
  pub moment : ℕ → List ℕ
  pub before : MovesOn old moment
  pub behind : MovesOn moment new
  pub same : (n : ℕ) → n < memory_size memory → (IsFree moment n → ⊥) → taken memory n ≡ moment n

-- what was read, or why the headers never stayed: they were changed
abbrev pub IsTakenIf : (ℕ → List ℕ) → (ℕ → List ℕ) → MemoryState → Bool → Type 0
IsTakenIf old new memory true = WasTaken old new memory
IsTakenIf old new memory false = new ≡ old → ⊥

-- why nothing was read
abbrev pub IsNotTaken : {S : Type 0} → DeviceFacts S → S → S → LookRefusal → Type 0
IsNotTaken facts old new (LookRefusal.Refused Refusal.TooSmall) = facts.size old < 2
IsNotTaken facts old new (LookRefusal.Refused Refusal.Disk) = Failed facts old new
IsNotTaken facts old new (LookRefusal.Refused Refusal.Memory) = Unit {0}
IsNotTaken facts old new (LookRefusal.Refused Refusal.Occupied) = ⊥
IsNotTaken facts old new (LookRefusal.Refused Refusal.NotAHill) = ⊥
IsNotTaken facts old new (LookRefusal.Refused Refusal.Damaged) = ⊥
IsNotTaken facts old new LookRefusal.Changing = facts.lawful old → shown facts new ≡ shown facts old → ⊥

-- this hill stood at a moment between two on a device of `size` sectors, under a header of this generation, with the
-- results that stood there, true or not
pub record HillStood (size : ℕ) (old new : ℕ → List ℕ) (hill : Kept) (generation : ℕ) : Type 0 where
  pub moment : ℕ → List ℕ
  pub before : MovesOn old moment
  pub behind : MovesOn moment new
  pub reads : Reads size moment hill
  pub header : HeaderParts
  pub newest : IsNewest moment header
  pub generation_is : generation ≡ header.generation

-- at a moment between two it had to be refused for this reason
pub record RefusalStood (size : ℕ) (old new : ℕ → List ℕ) (why : Refusal) : Type 0 where
  pub moment : ℕ → List ℕ
  pub before : MovesOn old moment
  pub behind : MovesOn moment new
  pub reason : Refuses size moment why

-- why no hill was seen
abbrev pub IsNotSeen : {S : Type 0} → DeviceFacts S → S → S → LookRefusal → Type 0
IsNotSeen facts old new (LookRefusal.Refused Refusal.Disk) = Failed facts old new
IsNotSeen facts old new (LookRefusal.Refused Refusal.Memory) = Unit {0}
IsNotSeen facts old new (LookRefusal.Refused Refusal.Occupied) = ⊥
IsNotSeen facts old new (LookRefusal.Refused Refusal.TooSmall) = facts.lawful old → RefusalStood (facts.size old) (shown facts old) (shown facts new) Refusal.TooSmall
IsNotSeen facts old new (LookRefusal.Refused Refusal.NotAHill) = facts.lawful old → RefusalStood (facts.size old) (shown facts old) (shown facts new) Refusal.NotAHill
IsNotSeen facts old new (LookRefusal.Refused Refusal.Damaged) = facts.lawful old → RefusalStood (facts.size old) (shown facts old) (shown facts new) Refusal.Damaged
IsNotSeen facts old new LookRefusal.Changing = facts.lawful old → shown facts new ≡ shown facts old → ⊥

-- why none was seen of sectors that read as this image all the time: opening is refused so
abbrev pub IsNotSeenIn : ℕ → (ℕ → List ℕ) → LookRefusal → Type 0
IsNotSeenIn size image (LookRefusal.Refused why) = Refuses size image why
IsNotSeenIn size image LookRefusal.Changing = ⊥

-- A device in memory fails only for lack of memory.
abbrev pub of_memory : Refusal → Refusal
of_memory Refusal.Disk = Refusal.Memory
of_memory Refusal.TooSmall = Refusal.TooSmall
of_memory Refusal.Occupied = Refusal.Occupied
of_memory Refusal.Memory = Refusal.Memory
of_memory Refusal.NotAHill = Refusal.NotAHill
of_memory Refusal.Damaged = Refusal.Damaged

-- opening refuses what was read, for a reason that it has
abbrev pub IsRefusedIn : MemoryState → LookRefusal → Type 0
IsRefusedIn memory (LookRefusal.Refused why) = (found : Refusal) × Refuses (memory_size memory) (taken memory) found × (why ≡ of_memory found)
IsRefusedIn memory LookRefusal.Changing = ⊥
