-- What a hill in the new format has lost: a header, and warriors.
use Rattle.std.specs.Prelude.{◌≡◌, ◌⊎◌, ℕ, List, [], ◌∷◌, Option, Some, None, take, codes}
use Rattle.{war_types.specs.{declared.settings.RawSettings.RawSettings, Warrior.WarriorParts}, hill_bytes.specs.{declared.header.HeaderEntry.HeaderEntry, Layout.{HeaderParts, new_layout}}}
use Rattle.hill_images.specs.{Found.IsFoundIn, Stands.IsNewestIn, Reading.SlotHolds}

-- these bytes, as sector n, are a valid header
abbrev pub HoldsHeaderAt : ℕ → List ℕ → Type 0
HoldsHeaderAt n bytes = (h : HeaderParts) × IsFoundIn new_layout n bytes (Some h)

-- they begin as one does, and are none
abbrev pub IsLostAt : ℕ → List ℕ → Type 0
IsLostAt n bytes = (take 8 bytes ≡ codes "KOTHHIL2") × (HoldsHeaderAt n bytes → ⊥)

-- of the first two sectors one is a valid header, and the other begins as one does and is none
abbrev pub LosesHeader : List ℕ → List ℕ → Type 0
LosesHeader even odd = (HoldsHeaderAt 0 even × IsLostAt 1 odd) ⊎ (HoldsHeaderAt 1 odd × IsLostAt 0 even)

-- a slot holds a warrior
abbrev pub HoldsWarrior : RawSettings → (ℕ → List ℕ) → ℕ → Type 0
HoldsWarrior s image slot = (w : WarriorParts) × SlotHolds new_layout s image slot w

-- what is found of the entries: the number of the first whose slot holds none, or nothing only if each slot holds one
abbrev pub FirstDamaged : RawSettings → (ℕ → List ℕ) → List HeaderEntry → Option ℕ → Type 0
FirstDamaged s image [] found = found ≡ None
FirstDamaged s image (e ∷ es) found =
    ((found ≡ Some e.entry) × (HoldsWarrior s image e.slot → ⊥))
    ⊎ (HoldsWarrior s image e.slot × FirstDamaged s image es found)

-- of those that the newest header names
abbrev pub IsDamaged : (ℕ → List ℕ) → Option ℕ → Type 0
IsDamaged image found =
    (h : HeaderParts) × IsNewestIn new_layout image h × FirstDamaged h.settings image h.entries found
