-- How it is known that a device holds a hill of the old format, and what is told of a device whose hill is not opened.
use Rattle.std.specs.{Prelude.{◌≡◌, ◌≢◌, ◌⊎◌, ℕ, List}, Borrow.Bor}
use Rattle.{sector_disk.specs.{Disk.current, Facts.DeviceFacts, Served.{Failed, IsKept}}, hill_bytes.specs.Layout.old_layout}
use Rattle.hill_images.specs.{Opening.{HoldsNoneIn, HoldsOld, IsNotOpened}, declared.refusal.Refusal.Refusal}
use Rattle.{koth_commands.specs.declared.trouble.Trouble.Trouble, koth_files.specs.Trouble.{old_hill_at, refused_at}}

-- what is told of a device without a hill of the new format: whether it holds a hill of the old one, unless reading it
-- for that failed
abbrev pub TellsNoHill : {D : Type 0} → DeviceFacts D → Bor (List ℕ) → D → D → Trouble → Type 0
TellsNoHill facts path old new trouble =
    ((trouble ≡ old_hill_at path) × (facts.lawful old → HoldsOld (current (facts.disk old))))
    ⊎ ((trouble ≡ refused_at path Refusal.NotAHill) × (Failed facts old new ⊎ (facts.lawful old → HoldsNoneIn old_layout (current (facts.disk old)))))

-- what is told of a device that was refused
pub record TellsRefusal {D : Type 0} (facts : DeviceFacts D) (path : Bor (List ℕ)) (old new : D) (why : Refusal) (trouble : Trouble) : Type 0 where
  pub no_hill : why ≡ Refusal.NotAHill → TellsNoHill facts path old new trouble
  pub other : why ≢ Refusal.NotAHill → trouble ≡ refused_at path why

-- the hill on a device was not opened, and this is told
pub record IsUnopened {D : Type 0} (facts : DeviceFacts D) (path : Bor (List ℕ)) (device : D) (trouble : Trouble) : Type 0 where
  pub refused : D
  pub kept : IsKept facts device refused
  pub last : D
  pub why : Refusal
  pub reason : IsNotOpened facts device refused why
  pub told : TellsRefusal facts path refused last why trouble
