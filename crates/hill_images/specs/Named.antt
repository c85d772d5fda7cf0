-- A header and the hill that it names.
use Rattle.std.specs.Prelude.{◌≡◌, ◌≤◌, Bool, false, List, [], ◌∷◌}
use Rattle.{war_types.specs.declared.settings.RawSettings.RawSettings, koth_hill.specs.{Hill.{Member, Hill}, Kept.{Kept, hill_in, IsKept}}, sector_disk.specs.Facts.DeviceFacts}
use Rattle.{hill_bytes.specs.{declared.header.HeaderEntry.HeaderEntry, Layout.{Layout, HeaderParts, IsHeaderParts, new_layout, sectors_in}}, hill_images.specs.Stands.IsReady}

-- entries and members agree one by one
abbrev pub Agree : List HeaderEntry → List Member → Type 0
Agree [] [] = Unit {0}
Agree [] (m ∷ ms) = ⊥
Agree (e ∷ es) [] = ⊥
Agree (e ∷ es) (m ∷ ms) = (m.entry ≡ e.entry) × (m.age ≡ e.age) × Agree es ms

-- the header names those on the hill
pub record IsNamed (h : HeaderParts) (hill : Hill) : Type 0 where
  pub settings : h.settings ≡ hill.settings
  pub counter : h.counter ≡ hill.counter
  pub entries : Agree h.entries hill.members

-- what every store keeps
pub record IsSoundIn {D : Type 0} (layout : Layout) (facts : DeviceFacts D) (device : D) (h : HeaderParts) (hill : Kept) (arena : RawSettings) (reopen : Bool) : Type 0 where
  pub room : sectors_in layout hill.settings.capacity ≤ facts.size device
  pub arena_of : arena ≡ hill.settings
  pub header : IsHeaderParts h
  pub kept : IsKept hill
  pub named : IsNamed h (hill_in hill)
  pub ready : facts.lawful device → reopen ≡ false → IsReady layout (facts.disk device) h hill

abbrev pub IsSound : {D : Type 0} → DeviceFacts D → D → HeaderParts → Kept → RawSettings → Bool → Type 0
IsSound facts device h hill arena reopen = IsSoundIn new_layout facts device h hill arena reopen
