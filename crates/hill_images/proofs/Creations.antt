-- The exits of writing a hill to a device that holds none.
use Rattle.{std.proofs.Common.{◌≡◌, inl, inr, ◌≤◌, [], ◌∷◌, Result, Ok, Err, IfErr, OnOk, sym, ap, subst, ◌∙◌}, koth_hill.specs.Kept.Kept}
use Rattle.{sector_disk.specs.{Facts.DeviceFacts, Disk.{current, synced, IsSettled}, Image.Images, Changes.Begun, Served.{IsKept, Failed}}, sector_disk.proofs.Images.settled-synced}
use Rattle.{hill_bytes.specs.Layout.{HeaderParts, sectors_for}, hill_images.specs.{declared.refusal.Refusal.Refusal, Opening.{HoldsNone, IsNotWritten, IsWriteCut, IsWritten}}}
use Rattle.{hill_images.specs.Writing.{IsPut, NoneOrHill}, hill_images.proofs.{Firsts.images_begun_sync, WarriorsRead.rose_more}}

-- the device failed before anything was written
pub cut_early : {D : Type 0} (facts : DeviceFacts D) (old new : D) (hill : Kept) → Failed facts old new → (facts.lawful old → Begun (synced ∷ []) (facts.disk old) (facts.disk new)) → IsWriteCut facts old hill new
cut_early facts old new hill rose begun = record {
  cause = rose;
  images = λ lawful. λ image. λ is. inl (images_begun_sync (facts.disk old) (facts.disk new) (begun lawful) image is);
  occupied = λ lawful. λ is. begun lawful;
}

module _ {D : Type 0} (facts : DeviceFacts D) (old mid new : D) (h : HeaderParts) (hill : Kept) (front : IsKept facts old mid) (back : IsKept facts mid new) (settled : facts.lawful old → facts.disk mid ≡ synced (facts.disk old)) (none : facts.lawful old → HoldsNone (current (facts.disk old))) where
  settled_mid : facts.lawful old → IsSettled (facts.disk mid)
  settled_mid lawful = subst IsSettled (sym (settled lawful)) (settled-synced (facts.disk old))

  none_mid : facts.lawful old → HoldsNone (current (facts.disk mid))
  none_mid lawful = subst HoldsNone (sym (ap current (settled lawful))) (none lawful)

  -- it failed while the hill was written
  cut_late : sectors_for hill.settings.capacity ≤ facts.size old → Failed facts mid new → (facts.lawful old → Images (facts.disk new) (NoneOrHill h hill)) → IsWriteCut facts old hill new
  cut_late room rose each = record {
    cause = rose_more facts old mid new front.later back.later rose;
    images = λ lawful. λ image. λ is. inr (elim (each lawful image is) [
      | inl without ↦ inl without
      | inr shows ↦ inr (record { header = h; shows = shows; room = subst (λ n. sectors_for hill.settings.capacity ≤ n) (sym (back.same_size ∙ front.same_size)) room })
    ]);
    occupied = λ lawful. λ is. absurd (none lawful is.format is.header is.here);
  }

  -- what writing it answered
  pub written_or_not : {T : Type 0} (result : Result T Refusal) → sectors_for hill.settings.capacity ≤ facts.size old → IfErr result (λ why. (why ≡ Refusal.Disk) × Failed facts mid new)
      → (facts.lawful mid → IsSettled (facts.disk mid) → HoldsNone (current (facts.disk mid)) → IsPut facts h hill new result)
      → OnOk result (IsWritten facts old h hill new) × IfErr result (IsNotWritten facts old hill new)
  written_or_not (Ok done) room cause put =
      (record { was_none = none; ready = λ lawful. put (front.same_laws.1 lawful) (settled_mid lawful) (none_mid lawful) }, tt)
  written_or_not (Err why) room cause put =
      (tt, subst (IsNotWritten facts old hill new) (sym cause.0) (cut_late room cause.1 (λ lawful. put (front.same_laws.1 lawful) (settled_mid lawful) (none_mid lawful))))
