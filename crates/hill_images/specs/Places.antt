-- What a submission writes, and the header that it writes.
use Rattle.std.specs.Prelude.{ℕ, ◌+◌, ◌-◌, ◌^◌, ◌%◌, ◌<◌, ◌==◌, Bool, true, false, if◌then◌else◌, List, [], ◌∷◌, ◌++◌, All, Option, replicate, set}
use Rattle.{war_types.specs.Warrior.WarriorParts, koth_match.specs.declared.bout.Bout.Bout, koth_hill.specs.Step.is_entry, sector_disk.specs.Disk.{Disk, wrote, synced}}
use Rattle.hill_bytes.specs.{declared.header.HeaderEntry.HeaderEntry, declared.wins.Wins.Wins, Layout.{Layout, HeaderParts, header_parts, header_bytes, slot_at, slot_bytes}}
use Rattle.hill_images.specs.Stands.{no_wins}

-- a result as it is stored
abbrev pub wins_of : Bout → Wins
wins_of b = record { older = b.older_wins; younger = b.younger_wins }

-- these places, with the results of matches with the warriors of these entries, each in the place of its warrior's slot
abbrev pub results_onto : List Wins → List HeaderEntry → List Bout → List Wins
results_onto places [] bouts = places
results_onto places (e ∷ es) [] = places
results_onto places (e ∷ es) (b ∷ bouts) = results_onto (set places e.slot (wins_of b)) es bouts

-- all places, of which those of slots without a warrior are zero
abbrev pub results_by_slot : List HeaderEntry → List Bout → List Wins
results_by_slot es bouts = results_onto (replicate 21 no_wins) es bouts

-- these sectors, one after the other from one on
abbrev pub writes_from : ℕ → List (List ℕ) → List (Disk → Disk)
writes_from at [] = []
writes_from at (bytes ∷ sectors) = wrote at bytes ∷ writes_from (at + 1) sectors

-- the sectors of a slot
abbrev pub slot_writes : Layout → ℕ → WarriorParts → List Wins → List (Disk → Disk)
slot_writes layout slot w results = writes_from (slot_at layout slot) (slot_bytes layout w results)

-- the header, in the sector of its generation's parity
abbrev pub commits : Layout → HeaderParts → List (Disk → Disk)
commits layout h = wrote (h.generation % 2) (header_bytes layout h) ∷ synced ∷ []

-- the durable order of a warrior that stays: its slot, and only then the header that names it
abbrev pub places : Layout → HeaderParts → ℕ → WarriorParts → List Wins → List (Disk → Disk)
places layout h slot w results = slot_writes layout slot w results ++ (synced ∷ commits layout h)

-- the entries that stay, one older each
abbrev pub kept_entries : Option ℕ → List HeaderEntry → List HeaderEntry
kept_entries fallen [] = []
kept_entries fallen (e ∷ es) =
    if is_entry e.entry fallen then kept_entries fallen es
    else record { entry = e.entry; slot = e.slot; age = e.age + 1 } ∷ kept_entries fallen es

-- the entry of a warrior that just entered
abbrev pub new_entry : ℕ → ℕ → HeaderEntry
new_entry entry slot = record { entry = entry; slot = slot; age = 0 }

-- the header after a warrior that stays, in this slot
abbrev pub header_placed : HeaderParts → Option ℕ → ℕ → HeaderParts
header_placed h fallen slot =
    header_parts (h.generation + 1) h.settings (h.counter + 1) (kept_entries fallen h.entries ++ new_entry (h.counter + 1) slot ∷ [])

-- the header after a warrior that falls
abbrev pub header_passed : HeaderParts → HeaderParts
header_passed h = header_parts (h.generation + 1) h.settings (h.counter + 1) h.entries

-- whether one of these entries has the slot
abbrev pub has_slot : ℕ → List HeaderEntry → Bool
has_slot slot [] = false
has_slot slot (e ∷ es) = if e.slot == slot then true else has_slot slot es

-- no age is at the end of its range
abbrev pub CanGrow : List HeaderEntry → Type 0
CanGrow es = All (λ e. e.age < 2 ^ 64 - 1) es
