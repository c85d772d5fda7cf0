-- What a device holds, in words of the sources that earn its hill.
use Rattle.std.specs.Prelude.{◌≡◌, ◌⊎◌, ℕ, Bool, true, false, if◌then◌else◌, List, [], ◌∷◌, ◌++◌, Option, Some, None}
use Rattle.{war_types.specs.declared.settings.RawSettings.RawSettings, koth_hill.specs.Kept.fought, sector_disk.specs.{Facts.DeviceFacts, Disk.Disk, Image.{IsImage, Images}}}
use Rattle.{hill_bytes.specs.Layout.{Layout, new_layout, old_layout}, hill_images.specs.{declared.refusal.Refusal.Refusal, Opening.HoldsNone, Stands.StandsIn}}
use Rattle.hill_store.specs.{declared.reply.Reply.Reply, Earned.earned, declared.migration.MigrateFault.MigrateFault, Seen.Seen, Runs.is_disk, declared.migration.MigrateSide.MigrateSide}

-- The hill that these sources earn, or these and one more, is what every image stands for.
abbrev pub StandsForIn : Layout → ℕ → RawSettings → List (List ℕ) → Option (List ℕ) → (ℕ → List ℕ) → Type 0
StandsForIn layout size s sources None image = StandsIn layout size image (earned s sources)
StandsForIn layout size s sources (Some source) image = StandsIn layout size image (earned s sources) ⊎ StandsIn layout size image (earned s (sources ++ source ∷ []))

-- What a disk of `size` sectors holds: whatever a stop leaves of it stands for the hill that these sources earn from
-- the beginning, with every pair fought again. If one more source is named, it may stand for the hill that this one
-- earns after them instead. It stands for no other hill: an image stands for one at most.
abbrev pub HoldsIn : Layout → ℕ → Disk → RawSettings → List (List ℕ) → Option (List ℕ) → Type 0
HoldsIn layout size disk s sources more = Images disk (StandsForIn layout size s sources more)

-- both in the new layout
abbrev pub StandsFor : ℕ → RawSettings → List (List ℕ) → Option (List ℕ) → (ℕ → List ℕ) → Type 0
StandsFor size s sources more image = StandsForIn new_layout size s sources more image

abbrev pub Holds : ℕ → Disk → RawSettings → List (List ℕ) → Option (List ℕ) → Type 0
Holds size disk s sources more = HoldsIn new_layout size disk s sources more

-- the submission was answered: it was placed, or fell, or was refused
abbrev pub is_answer : Reply → Bool
is_answer (Reply.Placed entry rank score) = true
is_answer (Reply.Fell entry score) = true
is_answer (Reply.Refused fault) = true
is_answer Reply.Memory = false
is_answer Reply.Worn = false
is_answer Reply.Disk = false
is_answer Reply.Reopen = false

-- those of these sources that were answered, by their replies
abbrev pub answered : List (List ℕ) → List Reply → List (List ℕ)
answered [] replied = []
answered (source ∷ sources) [] = []
answered (source ∷ sources) (reply ∷ rest) = if is_answer reply then source ∷ answered sources rest else answered sources rest

-- the source that was under way when the device failed
abbrev pub under_way : List (List ℕ) → List Reply → Option (List ℕ)
under_way [] replied = None
under_way (source ∷ sources) [] = None
under_way (source ∷ sources) (reply ∷ rest) = if is_disk reply then Some source else under_way sources rest

-- an open store on a lawful device: its hill is what these sources earn, each result that it keeps is its pair's match,
-- and so it is with every image
pub record IsHolding {D : Type 0} (facts : DeviceFacts D) (s : RawSettings) (sources : List (List ℕ)) (store : Seen D) : Type 0 where
  pub lawful : facts.lawful store.device
  pub open_now : store.reopen ≡ false
  pub hill : store.hill ≡ fought (earned s sources)
  pub holds : Holds (facts.size store.device) (facts.disk store.device) s sources None

-- a store whose device failed while one more source was under way
pub record IsCutOff {D : Type 0} (facts : DeviceFacts D) (s : RawSettings) (sources : List (List ℕ)) (source : List ℕ) (store : Seen D) : Type 0 where
  pub lawful : facts.lawful store.device
  pub broken : store.reopen ≡ true
  pub hill : store.hill ≡ fought (earned s sources)
  pub holds : Holds (facts.size store.device) (facts.disk store.device) s sources (Some source)

-- the one or the other
abbrev pub IsHeldWith : {D : Type 0} → DeviceFacts D → RawSettings → List (List ℕ) → Option (List ℕ) → Seen D → Type 0
IsHeldWith facts s sources None store = IsHolding facts s sources store
IsHeldWith facts s sources (Some source) store = IsCutOff facts s sources source store

-- what submitting these sources, so answered, makes of a store that holds those before them
abbrev pub HoldsMore : {D : Type 0} → DeviceFacts D → RawSettings → List (List ℕ) → List (List ℕ) → List Reply → Seen D → Type 0
HoldsMore facts s before sources replied store = IsHeldWith facts s (before ++ answered sources replied) (under_way sources replied) store

-- these sources, with or without the one that was under way
abbrev pub AreDecided : List (List ℕ) → Option (List ℕ) → List (List ℕ) → Type 0
AreDecided sources None found = found ≡ sources
AreDecided sources (Some source) found = (found ≡ sources) ⊎ (found ≡ sources ++ source ∷ [])

-- opening decided whether the source that was under way counts
pub record IsDecided {D : Type 0} (facts : DeviceFacts D) (s : RawSettings) (sources : List (List ℕ)) (more : Option (List ℕ)) (store : Seen D) : Type 0 where
  pub found : List (List ℕ)
  pub are : AreDecided sources more found
  pub holding : IsHolding facts s found store

-- it did not, and the device holds what it held
pub record IsUndecided {D : Type 0} (facts : DeviceFacts D) (s : RawSettings) (sources : List (List ℕ)) (more : Option (List ℕ)) (device : D) (why : Refusal) : Type 0 where
  pub cause : (why ≡ Refusal.Disk) ⊎ (why ≡ Refusal.Memory)
  pub holds : Holds (facts.size device) (facts.disk device) s sources more

-- moving a hill decided it: both devices stand for what the sources found earn, and the store on the new one holds that
pub record IsMoved {O D : Type 0} (old_facts : DeviceFacts O) (facts : DeviceFacts D) (s : RawSettings) (sources : List (List ℕ)) (more : Option (List ℕ)) (old : O) (store : Seen D) : Type 0 where
  pub found : List (List ℕ)
  pub are : AreDecided sources more found
  pub holding : IsHolding facts s found store
  pub kept : HoldsIn old_layout (old_facts.size old) (old_facts.disk old) s found None

-- it did not: the old device holds what it held, and whatever a stop leaves of the new one was there before, or is
-- without a hill, or stands for what these sources earn
pub record IsUnmoved {O D : Type 0} (old_facts : DeviceFacts O) (facts : DeviceFacts D) (s : RawSettings) (sources : List (List ℕ)) (more : Option (List ℕ)) (old : O) (new after : D) (fault : MigrateFault) : Type 0 where
  pub cause : (fault.side ≡ MigrateSide.New) ⊎ ((fault.refusal ≡ Refusal.Disk) ⊎ (fault.refusal ≡ Refusal.Memory))
  pub holds : HoldsIn old_layout (old_facts.size old) (old_facts.disk old) s sources more
  pub images : Images (facts.disk after) (λ image. IsImage (facts.disk new) image ⊎ (HoldsNone image ⊎ StandsFor (facts.size after) s sources more image))
