-- The newest header of each image has the generation of the store: for `create`, `migrate`, `admit` and `pass`.
use Rattle.std.proofs.Common.{◌≡◌, Bool, false, refl}
use Rattle.{war_types.specs.declared.settings.RawSettings.RawSettings, koth_hill.specs.Kept.Kept, sector_disk.specs.{Facts.DeviceFacts, Image.Images}, sector_disk.proofs.Images.images_settled}
use Rattle.{hill_bytes.specs.Layout.HeaderParts, hill_images.specs.Named.IsSound, hill_store.specs.Seen.HasNewest}

pub sound_newest : {D : Type 0} (facts : DeviceFacts D) (device : D) (h : HeaderParts) (hill : Kept) (arena : RawSettings) (reopen : Bool)
    → IsSound facts device h hill arena reopen → reopen ≡ false → facts.lawful device → Images (facts.disk device) (λ image. HasNewest image h.generation)
sound_newest facts device h hill arena reopen sound is_open lawful =
    let ready = sound.ready lawful is_open in
    images_settled (facts.disk device) (λ image. HasNewest image h.generation) ready.settled (h, ready.shows.newest, refl)
