-- A copy on another device: for `Store::copy_to`.
use Rattle.std.proofs.Common.{◌≡◌, ◌⊎◌, inl, inr, ℕ, ◌≤◌, List, Result, Ok, Err, IfErr, OnOk, refl, sym, subst}
use Rattle.{koth_hill.specs.Kept.Kept, sector_disk.specs.{Facts.DeviceFacts, Disk.{Disk, current}, Image.{IsImage, Images}, Served.IsKept}, sector_disk.proofs.Images.{image-current, image-synced}}
use Rattle.{hill_bytes.specs.Layout.{HeaderParts, sectors_for}, hill_images.specs.{declared.refusal.Refusal.Refusal, Opening.{HoldsNone, IsNotWritten, IsWritten}, Stands.Reads}}
use Rattle.{hill_images.proofs.Submitted.ready_reads, hill_store.specs.Read.IsCopied}

module _ {N : Type 0} (facts : DeviceFacts N) (old new : N) (h : HeaderParts) (hill : Kept) (kept : IsKept facts old new) (room : sectors_for hill.settings.capacity ≤ facts.size old) where
  enough : sectors_for hill.settings.capacity ≤ facts.size new
  enough = subst (λ n. sectors_for hill.settings.capacity ≤ n) (sym kept.same_size) room

  reads : IsWritten facts old h hill new → facts.lawful old → Images (facts.disk new) (λ image. Reads (facts.size new) image hill)
  reads written lawful = ready_reads (facts.size new) (facts.disk new) h hill enough (written.ready lawful)

  pub copied : {T : Type 0} (result : Result T Refusal) → OnOk result (IsWritten facts old h hill new) → OnOk result (IsCopied facts hill h.generation old new)
  copied (Ok done) written = record {
    was_none = written.was_none;
    reads = reads written;
    generation_is = λ lawful. (h, (written.ready lawful).shows.newest, refl);
  }
  copied (Err why) any = any

  pub fresh : {T : Type 0} (result : Result T Refusal) → OnOk result (IsWritten facts old h hill new) → IfErr result (IsNotWritten facts old hill new) → facts.lawful old
      → Images (facts.disk old) HoldsNone → Images (facts.disk new) (λ image. HoldsNone image ⊎ Reads (facts.size new) image hill)
  fresh (Ok done) written any lawful none image is = inr (reads written lawful image is)
  fresh (Err Refusal.Disk) any cut lawful none image is = elim (cut.images lawful image is) [
    | inl before ↦ inl (none image before)
    | inr other ↦ other
  ]
  fresh (Err Refusal.Occupied) any occupied lawful none image is =
      inl (none image (subst (IsImage (facts.disk old)) (sym (image-synced (facts.disk old) image (subst (λ (disk : Disk). IsImage disk image) (occupied lawful).1 is))) (image-current (facts.disk old))))
  fresh (Err Refusal.TooSmall) any never lawful none image is = absurd never
  fresh (Err Refusal.Memory) any never lawful none image is = absurd never
  fresh (Err Refusal.NotAHill) any never lawful none image is = absurd never
  fresh (Err Refusal.Damaged) any never lawful none image is = absurd never
