-- Laws of what is stored, for all bytes and every image, in every layout.
use Rattle.std.specs.Prelude.{◌≡◌, ℕ, ◌≤◌, List}
use Rattle.{war_types.specs.{declared.settings.RawSettings.RawSettings, Settings.AreSettings, Warrior.WarriorParts}, koth_hill.specs.{Hill.Hill, Kept.Kept}}
use Rattle.{hill_bytes.specs.Layout.{Layout, HeaderParts, IsHeader, IsSlot, code_room}, hill_images.specs.Stands.{ReadsIn, StandsIn}}

pub record LawsOfStorage : Type 0 where
  -- bytes are one header's at most
  pub one_header : (layout : Layout) (bytes : List ℕ) (g h : HeaderParts) → IsHeader layout bytes g → IsHeader layout bytes h → g ≡ h
  -- sectors hold one warrior at most, if a slot has room for the longest
  pub one_warrior : (layout : Layout) (s : RawSettings) (sectors : List (List ℕ)) (v w : WarriorParts) → AreSettings s → s.length ≤ code_room layout
      → IsSlot layout s sectors v → IsSlot layout s sectors w → v ≡ w
  -- an image reads as one hill at most, with one result of each pair
  pub one_reading : (layout : Layout) (size : ℕ) (image : ℕ → List ℕ) (x y : Kept) → ReadsIn layout size image x → ReadsIn layout size image y → x ≡ y
  -- an image stands for one hill at most
  pub one_hill : (layout : Layout) (size : ℕ) (image : ℕ → List ℕ) (x y : Hill) → StandsIn layout size image x → StandsIn layout size image y → x ≡ y
