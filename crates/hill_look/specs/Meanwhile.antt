-- What a store may do to the sectors of its hill while another program reads them. An image is what reads give at a
-- moment. A sync changes none.
use Rattle.std.specs.Prelude.{◌≡◌, ℕ, ◌+◌, ◌%◌, ◌<◌, ◌≤◌, List, [], ◌∷◌}
use Rattle.{sector_disk.specs.Image.put, hill_images.specs.Stands.IsNewest}
use Rattle.hill_bytes.specs.Layout.{HeaderParts, IsHeaderParts, SlotIsFree, header_bytes, new_layout, slot_at}

-- a sector of a slot that no member of the newest header has
pub record IsFree (image : ℕ → List ℕ) (n : ℕ) : Type 0 where
  pub header : HeaderParts
  pub newest : IsNewest image header
  pub slot : ℕ
  pub free : SlotIsFree slot header.entries
  pub from : slot_at new_layout slot ≤ n
  pub to : n < slot_at new_layout slot + (new_layout.full + 1)

-- the header of the next generation
pub record IsNext (image : ℕ → List ℕ) (next : HeaderParts) : Type 0 where
  pub header : HeaderParts
  pub newest : IsNewest image header
  pub parts : IsHeaderParts next
  pub settings : next.settings ≡ header.settings
  pub generation : next.generation ≡ header.generation + 1

-- a write of a store: a content to a sector of a slot, or a header
pub data Write : Type 0 where
  InSlot : ℕ → List ℕ → Write
  Header : HeaderParts → Write

-- a store may make it, if this is what reads give
abbrev pub MayWrite : (ℕ → List ℕ) → Write → Type 0
MayWrite image (Write.InSlot n content) = IsFree image n
MayWrite image (Write.Header next) = IsNext image next

-- what reads give after it; a header is written to the sector of its generation's parity
abbrev pub after_write : Write → (ℕ → List ℕ) → ℕ → List ℕ
after_write (Write.InSlot n content) image = put n content image
after_write (Write.Header next) image = put (next.generation % 2) (header_bytes new_layout next) image

-- a store makes these writes, one after another
abbrev pub Writes : (ℕ → List ℕ) → List Write → (ℕ → List ℕ) → Type 0
Writes old [] new = new ≡ old
Writes old (write ∷ writes) new = MayWrite old write × Writes (after_write write old) writes new

-- a store has moved on, by any number of writes
pub record MovesOn (old new : ℕ → List ℕ) : Type 0 where
  pub writes : List Write
  pub made : Writes old writes new

-- at a moment between two this content stood in sector n
pub record StoodAt (old new : ℕ → List ℕ) (n : ℕ) (content : List ℕ) : Type 0 where
  pub moment : ℕ → List ℕ
  pub before : MovesOn old moment
  pub behind : MovesOn moment new
  pub here : moment n ≡ content
