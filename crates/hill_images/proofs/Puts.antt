-- The exits of writing a hill, slots first and then its header: for `put_hill`.
use Rattle.{std.proofs.Common.{◌≡◌, inl, [], ◌∷◌, Result, Ok, Err, IsErr, true≢false, sym, ap, subst}, koth_hill.specs.Kept.{Kept, hill_in}}
use Rattle.{sector_disk.specs.{Facts.DeviceFacts, Disk.{Disk, current, synced, IsSettled}, Image.Images, Changes.{after, Begun}}, sector_disk.proofs.Images.{images_read, settled-synced}}
use Rattle.{hill_bytes.specs.{Layout.{HeaderParts, IsHeaderParts, new_layout}, declared.format.Format.Format}, hill_images.specs.{Stands.IsReady, Named.IsNamed, Places.commits}}
use Rattle.{hill_images.specs.{Opening.HoldsNone, Writing.{AreStored, IsPut, NoneOrHill}}, hill_images.proofs.Firsts.{MayShow, first_committed, first_stopped, images_begun_sync}}

-- a sync that was made or not brings no header into being
pub none_synced : (disk new : Disk) → Images disk HoldsNone → Begun (synced ∷ []) disk new → Images new HoldsNone
none_synced disk new none begun = λ image. λ is. none image (images_begun_sync disk new begun image is)

module _ {D : Type 0} (facts : DeviceFacts D) (h : HeaderParts) (hill : Kept) where
  -- an Err that leaves these images
  pub put_err : {T E : Type 0} (new : D) (result : Result T E) → IsErr result → Images (facts.disk new) (NoneOrHill h hill) → IsPut facts h hill new result
  put_err new (Ok done) is each = absurd (true≢false (sym is))
  put_err new (Err error) is each = each

  -- it was stopped before the header
  pub put_early : {T E : Type 0} (new : D) (result : Result T E) → IsErr result → Images (facts.disk new) HoldsNone → IsPut facts h hill new result
  put_early new result is none = put_err new result is (λ image. λ at. inl (none image at))

  module _ (disk : Disk) (mid new : D) (header : IsHeaderParts h) (named : IsNamed h (hill_in hill)) (none : Images disk HoldsNone) (stored : AreStored (current disk) h hill) (settled : facts.disk mid ≡ synced disk) where
    may : MayShow new_layout (current (facts.disk mid)) h hill
    may = subst (λ image. MayShow new_layout image h hill) (sym (ap current settled)) (record {
      header = header;
      room = header.settings.length_most;
      settings = named.settings;
      counter = named.counter;
      members = stored.members;
      results = stored.results;
    })

    none_mid : HoldsNone (current (facts.disk mid))
    none_mid = subst HoldsNone (sym (ap current settled)) (images_read disk HoldsNone none)

    -- the header was written
    pub put_made : facts.disk new ≡ after (commits new_layout h) (facts.disk mid) → IsReady new_layout (facts.disk new) h hill
    put_made made = first_committed new_layout (facts.disk mid) (facts.disk new) h hill may (none_mid Format.New) made

    -- it was stopped in that
    pub put_late : {T E : Type 0} (result : Result T E) → IsErr result → Begun (commits new_layout h) (facts.disk mid) (facts.disk new) → IsPut facts h hill new result
    put_late result is begun =
        put_err new result is (first_stopped (facts.disk mid) (facts.disk new) h hill may (subst IsSettled (sym settled) (settled-synced disk)) none_mid begun)
