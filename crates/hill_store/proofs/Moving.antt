-- A hill that moves from a device of the old format to another one: for `Store::migrate` and `migrations_in_lives`.
use Rattle.{std.proofs.Common.{◌≡◌, ◌⊎◌, inl, inr, ℕ, ◌<◌, ◌≤◌, List, [], ◌∷◌, ◌++◌, Option, Some, None, refl, sym, subst}, war_types.specs.declared.settings.RawSettings.RawSettings}
use Rattle.{koth_hill.specs.Kept.{Kept, fought}, sector_disk.specs.{Facts.DeviceFacts, Disk.{current, synced}, Image.{IsImage, Images}, Changes.Begun, Served.IsKept}}
use Rattle.{sector_disk.proofs.Images.{image-current, images_read, images_sync}, hill_bytes.specs.Layout.{HeaderParts, Layout, old_layout, sectors_for}}
use Rattle.{hill_images.specs.{declared.refusal.Refusal.Refusal, Stands.{Reads, ReadsIn, Stands, StandsIn}, Opening.{HoldsNone, IsNotWritten}}, hill_images.proofs.Newest.reads_once}
use Rattle.hill_store.specs.{declared.migration.MigrateFault.MigrateFault, declared.migration.MigrateSide.MigrateSide, Earned.earned, Seen.Seen}
use Rattle.hill_store.specs.{Opened.{IsMigrated, IsNotMigrated, IsNotMigratedBy, IsNotTaken, IsReadOf}, Holding.{AreDecided, HoldsIn, IsMoved, IsUnmoved, StandsFor, StandsForIn}}
use Rattle.{hill_store.specs.Calls.MigrationsAreEvents, hill_store.proofs.{Living.begun_holds, Decided.any_reason}}

-- which sources earned the hill that an image reads as
record IsReadBy (layout : Layout) (size : ℕ) (image : ℕ → List ℕ) (s : RawSettings) (sources : List (List ℕ)) (more : Option (List ℕ)) (k : Kept) : Type 0 where
  pub found : List (List ℕ)
  pub are : AreDecided sources more found
  pub hill : k ≡ fought (earned s found)
  pub stands : StandsIn layout size image (earned s found)

read_by : (layout : Layout) (size : ℕ) (image : ℕ → List ℕ) (s : RawSettings) (sources : List (List ℕ)) (more : Option (List ℕ)) (k : Kept) → ReadsIn layout size image k → StandsForIn layout size s sources more image → IsReadBy layout size image s sources more k
read_by layout size image s sources None k reads stands =
    record { found = sources; are = refl; hill = reads_once size image k (fought (earned s sources)) reads stands; stands = stands }
read_by layout size image s sources (Some x) k reads (inl stands) =
    record { found = sources; are = inl refl; hill = reads_once size image k (fought (earned s sources)) reads stands; stands = stands }
read_by layout size image s sources (Some x) k reads (inr stands) =
    record { found = sources ++ x ∷ []; are = inr refl; hill = reads_once size image k (fought (earned s (sources ++ x ∷ []))) reads stands; stands = stands }

stands_for : (size : ℕ) (image : ℕ → List ℕ) (s : RawSettings) (sources found : List (List ℕ)) (more : Option (List ℕ)) → AreDecided sources more found → Stands size image (earned s found) → StandsFor size s sources more image
stands_for size image s sources found None are stands = subst (λ xs. Stands size image (earned s xs)) are stands
stands_for size image s sources found (Some x) (inl are) stands = inl (subst (λ xs. Stands size image (earned s xs)) are stands)
stands_for size image s sources found (Some x) (inr are) stands = inr (subst (λ xs. Stands size image (earned s xs)) are stands)

module _ {O D : Type 0} (old_facts : DeviceFacts O) (facts : DeviceFacts D) (old after : O) (s : RawSettings) (sources : List (List ℕ)) (more : Option (List ℕ)) (lawful_old : old_facts.lawful old) (holds : HoldsIn old_layout (old_facts.size old) (old_facts.disk old) s sources more) (old_kept : IsKept old_facts old after) where
  stands_now : StandsForIn old_layout (old_facts.size old) s sources more (current (old_facts.disk old))
  stands_now = images_read (old_facts.disk old) (StandsForIn old_layout (old_facts.size old) s sources more) holds

  -- the old device holds what it held
  still_holds : Begun (synced ∷ []) (old_facts.disk old) (old_facts.disk after) → HoldsIn old_layout (old_facts.size after) (old_facts.disk after) s sources more
  still_holds begun =
      subst (λ n. HoldsIn old_layout n (old_facts.disk after) s sources more) (sym old_kept.same_size)
      (begun_holds old_layout (old_facts.size old) s sources more (old_facts.disk old) (old_facts.disk after) holds begun)

  -- it was moved
  pub moved : (new : D) (store : Seen D) → IsKept facts new store.device → facts.lawful new → IsMigrated old_facts facts old after new store → IsMoved old_facts facts s sources more after store
  moved new store kept lawful_new is = record {
    found = by.found;
    are = by.are;
    holding = record {
      lawful = kept.same_laws.1 lawful_new;
      open_now = is.open_now;
      hill = by.hill;
      holds = subst (λ k. Images (facts.disk store.device) (λ image. Reads (facts.size store.device) image k)) by.hill (is.reads lawful_new);
    };
    kept = subst (λ n. HoldsIn old_layout n (old_facts.disk after) s by.found None) (sym old_kept.same_size)
        (subst (λ d. HoldsIn old_layout (old_facts.size old) d s by.found None) (sym (is.read.synced_now lawful_old))
        (images_sync (old_facts.disk old) (StandsForIn old_layout (old_facts.size old) s by.found None) by.stands));
  }
    where
      by : IsReadBy old_layout (old_facts.size old) (current (old_facts.disk old)) s sources more store.hill
      by = read_by old_layout (old_facts.size old) (current (old_facts.disk old)) s sources more store.hill (is.read.reads_as lawful_old) stands_now

  -- what a stop may leave of the new device
  abbrev MayBe : D → D → (ℕ → List ℕ) → Type 0
  MayBe new new_after image = IsImage (facts.disk new) image ⊎ (HoldsNone image ⊎ StandsFor (facts.size new_after) s sources more image)

  same_images : (new new_after : D) → new_after ≡ new → Images (facts.disk new_after) (MayBe new new_after)
  same_images new new_after same = λ image. λ is. inl (subst (λ d. IsImage (facts.disk d) image) same is)

  -- the new one did not take it
  not_taken : (new new_after : D) (hill : Kept) (why : Refusal) → facts.lawful new → IsReadOf old_facts old after hill → IsNotTaken facts new hill new_after why → Images (facts.disk new_after) (MayBe new new_after)
  not_taken new new_after hill Refusal.TooSmall lawful_new read is = same_images new new_after is.1
  not_taken new new_after hill Refusal.Disk lawful_new read is = λ image. λ at. elim (is.1.images lawful_new image at) [
    | inl before ↦ inl before
    | inr written ↦ elim written [
      | inl none ↦ inr (inl none)
      | inr reads ↦
          let by : IsReadBy old_layout (old_facts.size old) (current (old_facts.disk old)) s sources more hill =
          read_by old_layout (old_facts.size old) (current (old_facts.disk old)) s sources more hill (read.reads_as lawful_old) stands_now in
          inr (inr (stands_for (facts.size new_after) image s sources by.found more by.are (subst (λ k. Reads (facts.size new_after) image k) by.hill reads)))
    ]
  ]
  not_taken new new_after hill Refusal.Occupied lawful_new read is =
      subst (λ d. Images d (MayBe new new_after)) (sym (is.1 lawful_new).1) (images_sync (facts.disk new) (MayBe new new_after) (inl (image-current (facts.disk new))))
  not_taken new new_after hill Refusal.Memory lawful_new read is = absurd is
  not_taken new new_after hill Refusal.NotAHill lawful_new read is = absurd is
  not_taken new new_after hill Refusal.Damaged lawful_new read is = absurd is

  unmoved_by : (new new_after : D) (why : Refusal) (side : MigrateSide) → facts.lawful new → IsNotMigratedBy old_facts facts old after new new_after why side → IsUnmoved old_facts facts s sources more after new new_after (record { side = side; refusal = why })
  unmoved_by new new_after why MigrateSide.Old lawful_new is = record {
    cause = inr (any_reason old_layout (old_facts.size old) (current (old_facts.disk old)) s sources more why stands_now (is.0.reason lawful_old));
    holds = still_holds (is.0.kept lawful_old);
    images = same_images new new_after is.1;
  }
  unmoved_by new new_after why MigrateSide.New lawful_new is = record {
    cause = inl refl;
    holds = still_holds (inr (is.1.synced_now lawful_old));
    images = not_taken new new_after is.0 why lawful_new is.1 is.2;
  }

  -- it was not moved
  pub unmoved : (new new_after : D) (fault : MigrateFault) → facts.lawful new → IsNotMigrated old_facts facts old after new new_after fault → IsUnmoved old_facts facts s sources more after new new_after fault
  unmoved new new_after fault lawful_new is = unmoved_by new new_after fault.refusal fault.side lawful_new is

-- of the fault that says so
pub not_migrated_by : {O D : Type 0} (old_facts : DeviceFacts O) (facts : DeviceFacts D) (old after : O) (new new_after : D) (why : Refusal) (side : MigrateSide) (fault : MigrateFault) → fault.side ≡ side → fault.refusal ≡ why → IsNotMigratedBy old_facts facts old after new new_after why side
    → IsNotMigrated old_facts facts old after new new_after fault
not_migrated_by old_facts facts old after new new_after why side fault side_is why_is is =
    subst (λ x. IsNotMigratedBy old_facts facts old after new new_after fault.refusal x) (sym side_is) (subst (λ x. IsNotMigratedBy old_facts facts old after new new_after x side) (sym why_is) is)

-- the new device has too few sectors
pub too_small : {D : Type 0} (facts : DeviceFacts D) (new : D) (h : HeaderParts) (hill : Kept) → h.settings ≡ hill.settings → facts.size new < sectors_for h.settings.capacity → IsNotTaken facts new hill new Refusal.TooSmall
too_small facts new h hill settings few = (subst (λ (s : RawSettings). facts.size new < sectors_for s.capacity) settings few, refl)

-- why it did not take the hill that was to be written
pub taken_or_not : {D : Type 0} (facts : DeviceFacts D) (new after : D) (hill : Kept) (why : Refusal) → sectors_for hill.settings.capacity ≤ facts.size new
    → IsNotWritten facts new hill after why → IsNotTaken facts new hill after why
taken_or_not facts new after hill Refusal.Disk room is = (room, is)
taken_or_not facts new after hill Refusal.Occupied room is = (room, is)
taken_or_not facts new after hill Refusal.TooSmall room is = absurd is
taken_or_not facts new after hill Refusal.Memory room is = is
taken_or_not facts new after hill Refusal.NotAHill room is = is
taken_or_not facts new after hill Refusal.Damaged room is = is

-- nothing but a sync was done to the old device
begun_by : {O D : Type 0} (old_facts : DeviceFacts O) (facts : DeviceFacts D) (old after : O) (new new_after : D) (why : Refusal) (side : MigrateSide) → old_facts.lawful old → IsNotMigratedBy old_facts facts old after new new_after why side
    → Begun (synced ∷ []) (old_facts.disk old) (old_facts.disk after)
begun_by old_facts facts old after new new_after why MigrateSide.Old lawful is = is.0.kept lawful
begun_by old_facts facts old after new new_after why MigrateSide.New lawful is = inr (is.1.synced_now lawful)

pub migrations : {O D : Type 0} (old_facts : DeviceFacts O) (facts : DeviceFacts D) → MigrationsAreEvents old_facts facts
migrations old_facts facts = record {
  migrated = λ old after new store hill lawful_old lawful_new is same. (
    refl,
    subst (λ k. ReadsIn old_layout (old_facts.size old) (current (old_facts.disk old)) k) same (is.read.reads_as lawful_old),
    subst (λ k. Images (facts.disk store.device) (λ image. Reads (facts.size store.device) image k)) same (is.reads lawful_new),
    refl,
  );
  not_migrated = λ old after new new_after fault lawful is. (old_facts.disk after, begun_by old_facts facts old after new new_after fault.refusal fault.side lawful is, refl);
  stopped = λ old after new new_after fault image hill lawful is reads at stands. (refl, reads, stands, refl);
}
