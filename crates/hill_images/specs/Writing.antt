-- What is written of a hill to a device that holds none.
use Rattle.std.specs.Prelude.{◌≡◌, ◌⊎◌, ℕ, List, Result, Ok, Err}
use Rattle.{koth_hill.specs.Kept.Kept, sector_disk.specs.{Facts.DeviceFacts, Image.Images}, hill_bytes.specs.Layout.{HeaderParts, new_layout}}
use Rattle.hill_images.specs.{Stands.{AllHeld, IsReady, Shows, results_read}, Opening.HoldsNone}

-- the slots that a header names hold the hill's warriors and its results
pub record AreStored (image : ℕ → List ℕ) (h : HeaderParts) (hill : Kept) : Type 0 where
  pub members : AllHeld new_layout hill.settings image h.entries hill.members
  pub results : hill.results ≡ results_read new_layout hill.settings.rounds image h.entries

-- no sector holds a valid header, or this one shows the hill
abbrev pub NoneOrHill : HeaderParts → Kept → (ℕ → List ℕ) → Type 0
NoneOrHill h hill image = HoldsNone image ⊎ Shows image h hill

-- the hill was written, or the device failed in it
abbrev pub IsPut : {D T E : Type 0} → DeviceFacts D → HeaderParts → Kept → D → Result T E → Type 0
IsPut facts h hill new (Ok done) = IsReady new_layout (facts.disk new) h hill
IsPut facts h hill new (Err error) = Images (facts.disk new) (NoneOrHill h hill)
