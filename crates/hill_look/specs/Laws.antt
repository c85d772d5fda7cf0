-- What the calls of a store do to a device is what a store may do while it is looked at.
use Rattle.std.specs.Prelude.{ℕ, List, Option}
use Rattle.{war_types.specs.Warrior.WarriorParts, sector_disk.specs.{Changes.Begun, Disk.{Disk, current, synced}}}
use Rattle.hill_bytes.specs.{declared.wins.Wins.Wins, Layout.{HeaderParts, IsHeaderParts, SlotIsFree, new_layout}}
use Rattle.{hill_images.specs.{Places.{commits, header_passed, header_placed, places}, Stands.IsNewest}, hill_look.specs.Meanwhile.MovesOn}

pub record CallsMoveOn : Type 0 where
  -- some of the changes at the front of a placing, or all of them
  pub placed : (old new : Disk) (h : HeaderParts) (fallen : Option ℕ) (slot : ℕ) (w : WarriorParts) (results : List Wins) → IsNewest (current old) h → SlotIsFree slot h.entries
      → IsHeaderParts (header_placed h fallen slot) → Begun (places new_layout (header_placed h fallen slot) slot w results) old new → MovesOn (current old) (current new)
  -- so it is with a header that counts a warrior that falls
  pub passed : (old new : Disk) (h : HeaderParts) → IsNewest (current old) h → IsHeaderParts (header_passed h) → Begun (commits new_layout (header_passed h)) old new → MovesOn (current old) (current new)
  -- and with a sync
  pub settled : (old : Disk) → MovesOn (current old) (current (synced old))
