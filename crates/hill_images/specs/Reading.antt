-- How the warriors of a hill are read from their slots, after its header.
use Rattle.std.specs.Prelude.{◌≡◌, ℕ, ◌<◌, ◌≤◌, List, Option, Some, None, Result, Ok, Err}
use Rattle.{war_types.specs.{declared.settings.RawSettings.RawSettings, Warrior.WarriorParts}, koth_hill.specs.{Hill.Member, Kept.{Kept, hill_in, IsKept}}, sector_disk.specs.Facts.DeviceFacts}
use Rattle.{sector_disk.specs.{Disk.current, Served.Failed}, hill_bytes.specs.{declared.wins.Wins.Wins, Layout.{Layout, HeaderParts, IsHeaderParts, IsSlot, results_in, sectors_in, slot_in}}}
use Rattle.hill_images.specs.{Stands.{AllHeld, results_read}, Named.IsNamed, declared.reading.Unread.Unread, declared.refusal.Refusal.Refusal}

-- what is answered if it was not read
abbrev pub refusal_of : Unread → Refusal
refusal_of Unread.Disk = Refusal.Disk
refusal_of Unread.Memory = Refusal.Memory
refusal_of Unread.Damaged = Refusal.Damaged

-- the slot holds this warrior
abbrev pub SlotHolds : Layout → RawSettings → (ℕ → List ℕ) → ℕ → WarriorParts → Type 0
SlotHolds layout s image slot w = IsSlot layout s (slot_in layout image slot) w

abbrev pub WarriorRead : {D : Type 0} → Layout → DeviceFacts D → D → RawSettings → ℕ → WarriorParts → Type 0
WarriorRead layout facts old s slot w = facts.lawful old → SlotHolds layout s (current (facts.disk old)) slot w

-- and these results
abbrev pub ResultsRead : {D : Type 0} → Layout → DeviceFacts D → D → ℕ → List Wins → Type 0
ResultsRead layout facts old slot results = facts.lawful old → results ≡ results_in layout (slot_in layout (current (facts.disk old)) slot)

abbrev pub WarriorNotRead : {D : Type 0} → Layout → DeviceFacts D → D → D → RawSettings → ℕ → Unread → Type 0
WarriorNotRead layout facts old new s slot Unread.Disk = Failed facts old new
WarriorNotRead layout facts old new s slot Unread.Memory = Unit {0}
WarriorNotRead layout facts old new s slot Unread.Damaged =
    facts.lawful old → (w : WarriorParts) → SlotHolds layout s (current (facts.disk old)) slot w → ⊥

-- the hill that a header gives was read
pub record HillRead {D : Type 0} (layout : Layout) (facts : DeviceFacts D) (old : D) (h : HeaderParts) (hill : Kept) : Type 0 where
  pub kept : IsKept hill
  pub named : IsNamed h (hill_in hill)
  pub held : facts.lawful old → AllHeld layout hill.settings (current (facts.disk old)) h.entries hill.members
  pub results : facts.lawful old → hill.results ≡ results_read layout hill.settings.rounds (current (facts.disk old)) h.entries

abbrev pub HillNotRead : {D : Type 0} → Layout → DeviceFacts D → D → D → HeaderParts → Unread → Type 0
HillNotRead layout facts old new h Unread.Disk = Failed facts old new
HillNotRead layout facts old new h Unread.Memory = Unit {0}
HillNotRead layout facts old new h Unread.Damaged = facts.lawful old → (ms : List Member) → AllHeld layout h.settings (current (facts.disk old)) h.entries ms → ⊥

-- what was decoded, as an answer
abbrev pub IsDecodedAs : {W E : Type 0} → Result (Option W) E → Result W Unread → Type 0
IsDecodedAs (Ok (Some w)) result = result ≡ Ok w
IsDecodedAs (Ok None) result = result ≡ Err Unread.Damaged
IsDecodedAs (Err error) result = result ≡ Err Unread.Memory

-- why the hill of a header was not recovered
abbrev pub HillRefused : {D : Type 0} → Layout → DeviceFacts D → D → D → HeaderParts → Refusal → Type 0
HillRefused layout facts old new h Refusal.TooSmall = facts.size old < sectors_in layout h.settings.capacity
HillRefused layout facts old new h Refusal.Disk = Failed facts old new
HillRefused layout facts old new h Refusal.Memory = Unit {0}
HillRefused layout facts old new h Refusal.Damaged =
    (sectors_in layout h.settings.capacity ≤ facts.size old) × (facts.lawful old → (ms : List Member) → AllHeld layout h.settings (current (facts.disk old)) h.entries ms → ⊥)
HillRefused layout facts old new h Refusal.Occupied = ⊥
HillRefused layout facts old new h Refusal.NotAHill = ⊥

-- the hill of a header was recovered
pub record IsHillFound {D : Type 0} (layout : Layout) (facts : DeviceFacts D) (old : D) (given : HeaderParts) (h : HeaderParts) (hill : Kept) (arena : RawSettings) : Type 0 where
  pub same : h ≡ given
  pub header : IsHeaderParts h
  pub arena_of : arena ≡ h.settings
  pub room : sectors_in layout h.settings.capacity ≤ facts.size old
  pub read : HillRead layout facts old h hill
