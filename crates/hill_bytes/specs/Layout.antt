-- What the sectors hold: two headers in turn, and as many sectors for each slot as the layout says. Numbers are big endian.
use Rattle.std.specs.Prelude.{◌≡◌, ◌↔◌, ℕ, zero, suc, ◌+◌, ◌-◌, ◌*◌, ◌^◌, ◌<◌, ◌≤◌, ◌≢◌, ◌==◌, if◌then◌else◌, List, [], ◌∷◌, ◌++◌, length, get_or, drop, replicate, All, Option, Some, None}
use Rattle.std.specs.{Prelude.{codes, refl}, Int.bytes_high_first}
use Rattle.{byteorder.specs.Endian.big_number, war_types.specs.{declared.instr.Instr.Instr, declared.settings.RawSettings.RawSettings, Settings.AreSettings, Bytes.instr_bytes}}
use Rattle.{war_types.specs.{Title.IsTitle, Warrior.{WarriorParts, Fits}}, hill_bytes.specs.{declared.format.Format.Format, declared.header.HeaderEntry.HeaderEntry, declared.wins.Wins.Wins}}

-- How a device is laid out. A slot has some sectors full of code, 64 instructions each, and a last one: in it the rest of the code, zeros up
-- to byte 288, and from there on the fields of the warrior and its results.
pub record Layout : Type 0 where
  -- what a header's sector begins with
  pub magic : List ℕ
  pub magic_long : length magic ≡ 8
  -- the sectors of a slot that are full of code
  pub full : ℕ
  -- the instructions in its last sector, and the zeros after them
  pub last : ℕ
  pub zeros : ℕ
  pub fields_at : 8 * last + zeros ≡ 288

-- the instructions that a slot has places for
abbrev pub code_room : Layout → ℕ
code_room layout = 64 * layout.full + layout.last

-- a header: how many were written before it, and of a hill all but its warriors, with the slots that hold these
pub record HeaderParts : Type 0 where
  pub generation : ℕ
  pub settings : RawSettings
  pub counter : ℕ
  pub entries : List HeaderEntry

-- entries rise from one to the next, and from an entry before them
abbrev pub EntriesRise : ℕ → List HeaderEntry → Type 0
EntriesRise before [] = Unit {0}
EntriesRise before (e ∷ es) = (before < e.entry) × EntriesRise e.entry es

-- none of these has the slot
abbrev pub SlotIsFree : ℕ → List HeaderEntry → Type 0
SlotIsFree slot [] = Unit {0}
SlotIsFree slot (e ∷ es) = (e.slot ≢ slot) × SlotIsFree slot es

-- no two of these have the same slot
abbrev pub SlotsDiffer : List HeaderEntry → Type 0
SlotsDiffer [] = Unit {0}
SlotsDiffer (e ∷ es) = SlotIsFree e.slot es × SlotsDiffer es

-- an entry that a header of this capacity and counter may have
pub record IsEntry (capacity counter : ℕ) (e : HeaderEntry) : Type 0 where
  pub entry : e.entry ≤ counter
  pub slot : e.slot ≤ capacity
  pub age : e.age ≤ counter - e.entry

-- what every header keeps
pub record IsHeaderParts (h : HeaderParts) : Type 0 where
  pub settings : AreSettings h.settings
  pub generation : h.generation ≤ 2 ^ 64 - 1
  pub counter : h.counter ≤ h.generation
  pub few : length h.entries ≤ h.settings.capacity
  pub rising : EntriesRise 0 h.entries
  pub entries : All (IsEntry h.settings.capacity h.counter) h.entries
  pub slots : SlotsDiffer h.entries

abbrev pub settings_bytes : RawSettings → List ℕ
settings_bytes s =
    bytes_high_first 2 s.core ++ bytes_high_first 4 s.cycles ++ bytes_high_first 2 s.processes ++ bytes_high_first 2 s.length
    ++ bytes_high_first 2 s.distance ++ bytes_high_first 2 s.rounds ++ bytes_high_first 4 s.seed ++ bytes_high_first 2 s.capacity

-- a limit as it is stored: zero stands for the core size
abbrev pub stored_limit : ℕ → ℕ → ℕ
stored_limit core limit = if limit == core then 0 else limit

abbrev pub limit_bytes : RawSettings → List ℕ
limit_bytes s = bytes_high_first 2 (stored_limit s.core s.read_limit) ++ bytes_high_first 2 (stored_limit s.core s.write_limit)

abbrev pub entry_bytes : HeaderEntry → List ℕ
entry_bytes e = bytes_high_first 8 e.entry ++ e.slot ∷ bytes_high_first 8 e.age

-- a number of places of 17 bytes, in which these entries stand; a place without one is zero
abbrev pub entry_places : ℕ → List HeaderEntry → List ℕ
entry_places zero es = []
entry_places (suc n) [] = replicate 17 0 ++ entry_places n []
entry_places (suc n) (e ∷ es) = entry_bytes e ++ entry_places n es

-- the 512 bytes of a header
unfoldable pub header_bytes : Layout → HeaderParts → List ℕ
header_bytes layout h =
    layout.magic ++ bytes_high_first 8 h.generation ++ settings_bytes h.settings ++ limit_bytes h.settings ++ bytes_high_first 8 h.counter
    ++ bytes_high_first 2 (length h.entries) ++ entry_places 20 h.entries ++ replicate 122 0

-- these bytes are this header's; a record of parts ranges over all numbers, so that it keeps its ranges is said here, and that the longest
-- warrior of its settings has room in a slot
pub record IsHeader (layout : Layout) (bytes : List ℕ) (h : HeaderParts) : Type 0 where
  pub header : IsHeaderParts h
  pub room : h.settings.length ≤ code_room layout
  pub bytes_are : bytes ≡ header_bytes layout h

-- a number of places of 8 bytes, in which these instructions stand; a place without one is zero
abbrev pub code_places : ℕ → List Instr → List ℕ
code_places zero is = []
code_places (suc n) [] = replicate 8 0 ++ code_places n []
code_places (suc n) (i ∷ is) = instr_bytes i ++ code_places n is

-- a text, and zeros after it up to this length
abbrev pub filled : ℕ → List ℕ → List ℕ
filled zero bs = []
filled (suc n) [] = 0 ∷ filled n []
filled (suc n) (b ∷ bs) = b ∷ filled n bs

-- this many sectors full of code, 64 instructions each
abbrev pub code_sectors : ℕ → List Instr → List (List ℕ)
code_sectors zero is = []
code_sectors (suc n) is = code_places 64 is ∷ code_sectors n (drop 64 is)

-- the rounds that two warriors won, the older first
abbrev pub wins_bytes : Wins → List ℕ
wins_bytes w = bytes_high_first 2 w.older ++ bytes_high_first 2 w.younger

-- the places of these results, one after the other
abbrev pub result_places : List Wins → List ℕ
result_places [] = []
result_places (w ∷ ws) = wins_bytes w ++ result_places ws

-- the sectors of a slot with this code; the last has these bytes after its part of it
abbrev pub with_code : Layout → List Instr → List ℕ → List (List ℕ)
with_code layout is behind = code_sectors layout.full is ++ (code_places layout.last (drop (64 * layout.full) is) ++ behind) ∷ []

-- the fields of a slot: the code's length, the start, the two names, and the results by the older warrior's slot
unfoldable pub fields_bytes : WarriorParts → List Wins → List ℕ
fields_bytes w results =
    bytes_high_first 2 (length w.code) ++ bytes_high_first 2 w.start ++ filled 48 w.name ++ filled 48 w.author ++ result_places results
    ++ replicate 40 0

-- the sectors of a slot
unfoldable pub slot_bytes : Layout → WarriorParts → List Wins → List (List ℕ)
slot_bytes layout w results = with_code layout w.code (replicate layout.zeros 0 ++ fields_bytes w results)

-- what stands at the front of these bytes, read as a result
abbrev pub wins_in : List ℕ → Wins
wins_in bytes = record { older = big_number 2 bytes; younger = big_number 2 (drop 2 bytes) }

-- a number of results, one after the other
abbrev pub results_from : ℕ → List ℕ → List Wins
results_from zero bytes = []
results_from (suc n) bytes = wins_in bytes ∷ results_from n (drop 4 bytes)

-- the last of a slot's sectors
abbrev pub last_sector : Layout → List (List ℕ) → List ℕ
last_sector layout sectors = get_or sectors layout.full []

-- the 21 results in it
unfoldable pub results_in : Layout → List (List ℕ) → List Wins
results_in layout sectors = results_from 21 (drop 388 (last_sector layout sectors))

-- no more rounds were won than a match has
abbrev pub FitRounds : ℕ → List Wins → Type 0
FitRounds rounds results = All (λ w. w.older + w.younger ≤ rounds) results

-- both names are titles
pub record IsTitled (w : WarriorParts) : Type 0 where
  pub name : IsTitle w.name
  pub author : IsTitle w.author

-- these sectors are a slot's that holds this warrior, which fits the settings
pub record IsSlot (layout : Layout) (s : RawSettings) (sectors : List (List ℕ)) (w : WarriorParts) : Type 0 where
  pub fits : Fits s w
  pub titled : IsTitled w
  pub rounds : FitRounds s.rounds (results_in layout sectors)
  pub sectors_are : sectors ≡ slot_bytes layout w (results_in layout sectors)

-- where the first sector of a slot lies; the others follow it
abbrev pub slot_at : Layout → ℕ → ℕ
slot_at layout slot = 2 + (layout.full + 1) * slot

-- `count` sectors of an image, from one on
abbrev pub sectors_from : ℕ → ℕ → (ℕ → List ℕ) → List (List ℕ)
sectors_from zero at image = []
sectors_from (suc n) at image = image at ∷ sectors_from n (at + 1) image

-- the sectors of a slot in an image
abbrev pub slot_in : Layout → (ℕ → List ℕ) → ℕ → List (List ℕ)
slot_in layout image slot = sectors_from (layout.full + 1) (slot_at layout slot) image

-- how many sectors a hill of this capacity needs: two for the headers, and one slot more than it holds warriors
abbrev pub sectors_in : Layout → ℕ → ℕ
sectors_in layout capacity = slot_at layout (capacity + 1)

-- what decoding has to find in these bytes: the header whose bytes they are, and nothing only if there is none
abbrev pub IsDecoded : Layout → List ℕ → Option HeaderParts → Type 0
IsDecoded layout bytes None = (h : HeaderParts) → IsHeader layout bytes h → ⊥
IsDecoded layout bytes (Some h) = IsHeader layout bytes h

-- what reading a slot has to find in these sectors
abbrev pub IsSlotRead : Layout → RawSettings → List (List ℕ) → Option WarriorParts → Type 0
IsSlotRead layout s sectors None = (w : WarriorParts) → IsSlot layout s sectors w → ⊥
IsSlotRead layout s sectors (Some w) = IsSlot layout s sectors w

abbrev pub header_parts : ℕ → RawSettings → ℕ → List HeaderEntry → HeaderParts
header_parts generation settings counter entries = record { generation = generation; settings = settings; counter = counter; entries = entries }

-- ---- the layouts of both formats

unfoldable pub old_magic : List ℕ
old_magic = codes "KOTHHIL1"

unfoldable pub new_magic : List ℕ
new_magic = codes "KOTHHIL2"

pub old_magic_long : length old_magic ≡ 8
unfolding old_magic
old_magic_long = refl

pub new_magic_long : length new_magic ≡ 8
unfolding new_magic
new_magic_long = refl

-- a slot of two sectors, with room for 100 instructions
abbrev pub old_layout : Layout
old_layout = record { magic = old_magic; magic_long = old_magic_long; full = 1; last = 36; zeros = 0; fields_at = refl }

-- a slot of four sectors, with room for 200 instructions
abbrev pub new_layout : Layout
new_layout = record { magic = new_magic; magic_long = new_magic_long; full = 3; last = 8; zeros = 224; fields_at = refl }

abbrev pub layout_of : Format → Layout
layout_of Format.Old = old_layout
layout_of Format.New = new_layout

-- these sectors of the new format hold what those of a slot of this layout hold: the same results, and the same warriors, if it has room
-- for the longest
pub record HoldsSame (layout : Layout) (sectors : List (List ℕ)) (others : List (List ℕ)) : Type 0 where
  pub results : results_in new_layout sectors ≡ results_in layout others
  pub warriors : (s : RawSettings) (w : WarriorParts) → s.length ≤ code_room layout → IsSlot new_layout s sectors w ↔ IsSlot layout s others w

-- ---- in the new format, in which hills are written

abbrev pub sectors_for : ℕ → ℕ
sectors_for capacity = sectors_in new_layout capacity
