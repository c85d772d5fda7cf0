-- What a run of writes and syncs made of a disk.
use Rattle.std.specs.Prelude.{◌≡◌, ◌⊎◌, List, [], ◌∷◌, Result, MatchResult}
use Rattle.sector_disk.specs.Disk.{Disk}

-- after these changes, in their order
abbrev pub after : List (Disk → Disk) → Disk → Disk
after [] disk = disk
after (change ∷ changes) disk = after changes (change disk)

-- some of the changes at the front were made, in full, and no other
abbrev pub Begun : List (Disk → Disk) → Disk → Disk → Type 0
Begun [] old new = new ≡ old
Begun (change ∷ changes) old new = (new ≡ old) ⊎ Begun changes (change old) new

-- at Ok all of these changes were made, at Err some at the front, or none
abbrev pub Changes : {T E : Type 0} → List (Disk → Disk) → Disk → Disk → Result T E → Type 0
Changes changes old new result = MatchResult result (λ _. new ≡ after changes old) (λ _. Begun changes old new)
