-- Which hill an image stands for. Each of these is said of every layout; the words without `In` are said of the new
-- one, in which hills are written.
use Rattle.std.specs.Prelude.{◌≡◌, ℕ, ◌+◌, ◌-◌, ◌%◌, ◌≤◌, List, [], ◌∷◌, map, get_or}
use Rattle.{war_types.specs.declared.settings.RawSettings.RawSettings, koth_match.specs.declared.bout.Bout.Bout, koth_hill.specs.{Hill.{Member, Hill}, Kept.{Kept, rows_with, fought}}}
use Rattle.sector_disk.specs.Disk.{Disk, current, IsSettled}
use Rattle.hill_bytes.specs.{declared.header.HeaderEntry.HeaderEntry, declared.wins.Wins.Wins, Layout.{Layout, HeaderParts, IsHeader, IsSlot, new_layout, results_in, slot_in, sectors_in}}

-- the valid header of greatest generation; one is valid in the sector of its generation's parity
pub record IsNewestIn (layout : Layout) (image : ℕ → List ℕ) (h : HeaderParts) : Type 0 where
  pub here : IsHeader layout (image (h.generation % 2)) h
  pub newest : (g : HeaderParts) → IsHeader layout (image (g.generation % 2)) g → g.generation ≤ h.generation

-- the entry names this member, and its slot holds the member's warrior
pub record IsHeld (layout : Layout) (s : RawSettings) (image : ℕ → List ℕ) (e : HeaderEntry) (m : Member) : Type 0 where
  pub entry : m.entry ≡ e.entry
  pub age : m.age ≡ e.age
  pub slot : IsSlot layout s (slot_in layout image e.slot) m.warrior

-- so it is with these entries and these members, one by one
abbrev pub AllHeld : Layout → RawSettings → (ℕ → List ℕ) → List HeaderEntry → List Member → Type 0
AllHeld layout s image [] [] = Unit {0}
AllHeld layout s image [] (m ∷ ms) = ⊥
AllHeld layout s image (e ∷ es) [] = ⊥
AllHeld layout s image (e ∷ es) (m ∷ ms) = IsHeld layout s image e m × AllHeld layout s image es ms

-- nobody won a round
abbrev pub no_wins : Wins
no_wins = record { older = 0; younger = 0 }

-- a stored result of a match of `rounds` rounds: those that nobody won were ties
abbrev pub bout_of : ℕ → Wins → Bout
bout_of rounds w = record { older_wins = w.older; younger_wins = w.younger; ties = rounds - (w.older + w.younger) }

-- the result of the warriors in two slots, which stands with the younger
abbrev pub result_read : Layout → ℕ → (ℕ → List ℕ) → ℕ → ℕ → Bout
result_read layout rounds image older younger = bout_of rounds (get_or (results_in layout (slot_in layout image younger)) older no_wins)

abbrev pub slots_of : List HeaderEntry → List ℕ
slots_of es = map (λ e. e.slot) es

-- the results of the warriors of these entries, each with those before it
abbrev pub results_read : Layout → ℕ → (ℕ → List ℕ) → List HeaderEntry → List (List Bout)
results_read layout rounds image es = rows_with (result_read layout rounds image) [] (slots_of es)

-- the header is the newest, and with the slots that it names it gives the hill and what is kept of its matches, true or
-- not
pub record ShowsIn (layout : Layout) (image : ℕ → List ℕ) (h : HeaderParts) (hill : Kept) : Type 0 where
  pub newest : IsNewestIn layout image h
  pub settings : h.settings ≡ hill.settings
  pub counter : h.counter ≡ hill.counter
  pub members : AllHeld layout hill.settings image h.entries hill.members
  pub results : hill.results ≡ results_read layout hill.settings.rounds image h.entries

-- what an image of a device of `size` sectors reads as
pub record ReadsIn (layout : Layout) (size : ℕ) (image : ℕ → List ℕ) (hill : Kept) : Type 0 where
  pub header : HeaderParts
  pub shows : ShowsIn layout image header hill
  pub room : sectors_in layout hill.settings.capacity ≤ size

-- An image of a device of `size` sectors stands for the hill: it reads as that hill with every pair fought again, so
-- each result is that of the match.
abbrev pub StandsIn : Layout → ℕ → (ℕ → List ℕ) → Hill → Type 0
StandsIn layout size image hill = ReadsIn layout size image (fought hill)

-- nothing was written since the last sync, and this header shows the hill
pub record IsReady (layout : Layout) (disk : Disk) (h : HeaderParts) (hill : Kept) : Type 0 where
  pub settled : IsSettled disk
  pub shows : ShowsIn layout (current disk) h hill

-- ---- in the new layout

abbrev pub IsNewest : (ℕ → List ℕ) → HeaderParts → Type 0
IsNewest image h = IsNewestIn new_layout image h

abbrev pub Shows : (ℕ → List ℕ) → HeaderParts → Kept → Type 0
Shows image h hill = ShowsIn new_layout image h hill

abbrev pub Reads : ℕ → (ℕ → List ℕ) → Kept → Type 0
Reads size image hill = ReadsIn new_layout size image hill

abbrev pub Stands : ℕ → (ℕ → List ℕ) → Hill → Type 0
Stands size image hill = StandsIn new_layout size image hill
