-- What is told of a hill that was looked at and isn't shown, and what it has lost.
use Rattle.std.specs.{Prelude.{◌≡◌, ◌⊎◌, ◌↔◌, ℕ, Bool, IsTrue, List, Some}, Borrow.Bor}
use Rattle.{sector_disk.specs.{Facts.DeviceFacts, Memory.MemoryState}, hill_images.specs.{Damage.{IsDamaged, LosesHeader}, Opening.HoldsOld, declared.refusal.Refusal.Refusal}}
use Rattle.hill_look.specs.{Meanwhile.StoodAt, Looked.{IsNotSeen, WasTaken, shown, taken}, declared.refusal.LookRefusal.LookRefusal}
use Rattle.koth_commands.specs.declared.{cause.Reason.Reason, trouble.{Fault.Fault, Trouble.Trouble}}
use Rattle.koth_files.specs.Trouble.{damaged_at, old_hill_at, refused_at, told_at}

-- what was read of a source has this
abbrev pub Sees : {S : Type 0} → DeviceFacts S → S → S → ((ℕ → List ℕ) → Type 0) → Type 0
Sees facts old new Has = (memory : MemoryState) × WasTaken (shown facts old) (shown facts new) memory × Has (taken memory)

-- whether what was read of both sectors has a header that can't be read, beside one that can
pub record IsLostSeen {S : Type 0} (facts : DeviceFacts S) (old new : S) (lost : Bool) : Type 0 where
  pub middle : S
  pub even : List ℕ
  pub odd : List ℕ
  pub first : StoodAt (shown facts old) (shown facts middle) 0 even
  pub second : StoodAt (shown facts middle) (shown facts new) 1 odd
  pub loses : IsTrue lost ↔ LosesHeader even odd

-- a warrior that can't be read, the first one, with this entry
abbrev pub IsDamagedSeen : {S : Type 0} → DeviceFacts S → S → S → ℕ → Type 0
IsDamagedSeen facts old new entry = Sees facts old new (λ image. IsDamaged image (Some entry))

-- what is told if there is no hill: that it is one of the old format only if one was read
abbrev pub TellsNone : {S : Type 0} → DeviceFacts S → Bor (List ℕ) → S → S → Trouble → Type 0
TellsNone facts path old new trouble = (trouble ≡ refused_at path Refusal.NotAHill) ⊎ ((trouble ≡ old_hill_at path) × Sees facts old new HoldsOld)

-- what is told if a warrior can't be read: which one it is only if that was read
abbrev pub TellsDamage : {S : Type 0} → DeviceFacts S → Bor (List ℕ) → S → S → Trouble → Type 0
TellsDamage facts path old new trouble =
    (trouble ≡ refused_at path Refusal.Damaged) ⊎ ((entry : ℕ) × (trouble ≡ damaged_at path entry) × IsDamagedSeen facts old new entry)

-- what is told of a look that shows no hill for this reason
abbrev pub TellsLook : {S : Type 0} → DeviceFacts S → Bor (List ℕ) → S → S → LookRefusal → Trouble → Type 0
TellsLook facts path old new (LookRefusal.Refused Refusal.NotAHill) trouble = TellsNone facts path old new trouble
TellsLook facts path old new (LookRefusal.Refused Refusal.Damaged) trouble = TellsDamage facts path old new trouble
TellsLook facts path old new (LookRefusal.Refused Refusal.Disk) trouble = trouble ≡ refused_at path Refusal.Disk
TellsLook facts path old new (LookRefusal.Refused Refusal.TooSmall) trouble = trouble ≡ refused_at path Refusal.TooSmall
TellsLook facts path old new (LookRefusal.Refused Refusal.Occupied) trouble = trouble ≡ refused_at path Refusal.Occupied
TellsLook facts path old new (LookRefusal.Refused Refusal.Memory) trouble = trouble ≡ refused_at path Refusal.Memory
TellsLook facts path old new LookRefusal.Changing trouble = trouble ≡ told_at path Fault.Stream Reason.InUse

-- the hill of a source isn't shown, and this is told
pub record IsUnseen {S : Type 0} (facts : DeviceFacts S) (path : Bor (List ℕ)) (old new : S) (trouble : Trouble) : Type 0 where
  pub middle : S
  pub why : LookRefusal
  pub reason : IsNotSeen facts old middle why
  pub told : TellsLook facts path middle new why trouble
