-- What a stop may leave of a device.
use Rattle.std.specs.Prelude.{◌≡◌, ◌⊎◌, ℕ, List, [], ◌∷◌, ◌==◌, if◌then◌else◌}
use Rattle.sector_disk.specs.Disk.{Disk}

-- A stop may leave this content in a sector: the stable one, or any of those written since the last sync.
abbrev pub MayHold : List ℕ → List (List ℕ) → List ℕ → Type 0
MayHold stable [] content = content ≡ stable
MayHold stable (first ∷ contents) content = (content ≡ first) ⊎ MayHold stable contents content

-- An image is what a stop may leave. Each sector is lost or kept by itself.
abbrev pub IsImage : Disk → (ℕ → List ℕ) → Type 0
IsImage disk image = (n : ℕ) → MayHold (disk.stable n) (disk.written n) (image n)

-- whatever a stop leaves has P
abbrev pub Images : Disk → ((ℕ → List ℕ) → Type 0) → Type 0
Images disk P = (image : ℕ → List ℕ) → IsImage disk image → P image

-- the image with another content in one sector
abbrev pub put : ℕ → List ℕ → (ℕ → List ℕ) → ℕ → List ℕ
put n content image = λ k. if k == n then content else image k

-- the disk of a device that starts from an image
abbrev pub started : (ℕ → List ℕ) → Disk
started image = record { stable = image; written = λ n. [] }
