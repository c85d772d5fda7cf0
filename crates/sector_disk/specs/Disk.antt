-- The state of a device, as a value: what each sector holds for good, and what was written to it since.
use Rattle.std.specs.Prelude.{◌≡◌, ℕ, List, [], ◌∷◌, ◌++◌, ◌==◌, if◌then◌else◌}

-- Of each sector, by its number: its stable content, and the contents written since the last sync, in their order.
pub record Disk : Type 0 where
  pub stable : ℕ → List ℕ
  pub written : ℕ → List (List ℕ)

-- the last of these contents, or the stable one if there is none
abbrev pub last_of : List ℕ → List (List ℕ) → List ℕ
last_of stable [] = stable
last_of stable (content ∷ contents) = last_of content contents

-- what a read of a sector gives
abbrev pub current : Disk → ℕ → List ℕ
current disk n = last_of (disk.stable n) (disk.written n)

-- one more content was written to a sector
abbrev pub wrote : ℕ → List ℕ → Disk → Disk
wrote n content disk = record { stable = disk.stable; written = λ k. if k == n then disk.written k ++ content ∷ [] else disk.written k }

-- each sector's last content was made stable
abbrev pub synced : Disk → Disk
synced disk = record { stable = λ k. current disk k; written = λ k. [] }

-- nothing was written since the last sync
abbrev pub IsSettled : Disk → Type 0
IsSettled disk = (n : ℕ) → disk.written n ≡ []
