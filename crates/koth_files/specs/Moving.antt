-- What is told of a file from which no hill can be moved, as it holds none of the old format.
use Rattle.std.specs.{Prelude.{◌≡◌, ◌⊎◌, ℕ, ◌%◌, ◌<◌, Bool, true, false, List, Option, None, Some}, Borrow.Bor}
use Rattle.{sector_disk.specs.{Disk.current, Facts.DeviceFacts, Served.Failed}, hill_bytes.specs.Layout.{HeaderParts, IsHeader, new_layout, old_layout}}
use Rattle.hill_images.specs.{Found.IsFoundIn, Opening.HoldsNoneIn, declared.refusal.Refusal.Refusal}
use Rattle.{koth_commands.specs.declared.trouble.Trouble.Trouble, koth_files.specs.Trouble.{new_hill_at, refused_at}}

-- a sector holds a valid header of the new format
abbrev pub HoldsNew : (ℕ → List ℕ) → Type 0
HoldsNew image = (h : HeaderParts) × IsHeader new_layout (image (h.generation % 2)) h

-- whether one of the first two sectors does
abbrev pub HoldsNewIf : (ℕ → List ℕ) → Bool → Type 0
HoldsNewIf image true = HoldsNew image
HoldsNewIf image false = HoldsNoneIn new_layout image

-- whether these bytes, as sector n, are one
abbrev pub IsNewIf : ℕ → List ℕ → Bool → Type 0
IsNewIf n bytes true = (h : HeaderParts) × IsFoundIn new_layout n bytes (Some h)
IsNewIf n bytes false = IsFoundIn new_layout n bytes None

-- What is told of a device that holds no hill of the old format: that it has too few sectors for any; that it failed;
-- that it holds one of the new format; or that it holds none.
abbrev pub TellsUnmoved : {D : Type 0} → DeviceFacts D → Bor (List ℕ) → D → D → Trouble → Type 0
TellsUnmoved facts path old new trouble =
    let image = current (facts.disk old) in
    ((trouble ≡ refused_at path Refusal.TooSmall) × (facts.size old < 2))
    ⊎ ((trouble ≡ refused_at path Refusal.Disk) × Failed facts old new)
    ⊎ ((trouble ≡ new_hill_at path) × (facts.lawful old → HoldsNew image × HoldsNoneIn old_layout image))
    ⊎ ((trouble ≡ refused_at path Refusal.NotAHill) × (facts.lawful old → HoldsNoneIn new_layout image × HoldsNoneIn old_layout image))
