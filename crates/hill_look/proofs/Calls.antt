-- What the calls of a store do to a device, write by write.
use Rattle.std.proofs.Common.{◌≡◌, inl, inr, ℕ, ◌+◌, ◌%◌, ◌≤◌, List, [], ◌∷◌, ◌++◌, length, refl, sym, subst, arith}
use Rattle.{sector_disk.specs.{Changes.Begun, Disk.{Disk, current, synced, wrote}}, sector_disk.proofs.Images.current-wrote}
use Rattle.hill_bytes.specs.{Layout.{HeaderParts, IsHeaderParts, SlotIsFree, header_bytes, new_layout, slot_at, slot_bytes}}
use Rattle.{hill_bytes.proofs.SlotBytes.length-slot, hill_images.specs.{Places.{commits, header_passed, header_placed, writes_from}, Stands.IsNewest}, hill_images.proofs.Newest.newest_elsewhere}
use Rattle.{hill_look.specs.{Laws.CallsMoveOn, Meanwhile.{MayWrite, MovesOn, Write, after_write}}, hill_look.proofs.Moves.{moves_more, stays}}

one_write : (image : ℕ → List ℕ) (write : Write) → MayWrite image write → MovesOn image (after_write write image)
one_write image write may = record { writes = write ∷ []; made = (may, refl) }

module _ (h next : HeaderParts) (parts : IsHeaderParts next) (settings : next.settings ≡ h.settings) (generation : next.generation ≡ h.generation + 1) where
  committed : (old : Disk) → IsNewest (current old) h → MovesOn (current old) (current (wrote (next.generation % 2) (header_bytes new_layout next) old))
  committed old newest =
      subst (MovesOn (current old)) (sym (current-wrote old (next.generation % 2) (header_bytes new_layout next)))
      (one_write (current old) (Write.Header next) (record { header = h; newest = newest; parts = parts; settings = settings; generation = generation }))

  commit_moves : (old new : Disk) → IsNewest (current old) h → Begun (commits new_layout next) old new → MovesOn (current old) (current new)
  commit_moves old new newest (inl none) = subst (λ (disk : Disk). MovesOn (current old) (current disk)) (sym none) (stays (current old))
  commit_moves old new newest (inr (inl written)) = subst (λ (disk : Disk). MovesOn (current old) (current disk)) (sym written) (committed old newest)
  commit_moves old new newest (inr (inr both)) = subst (λ (disk : Disk). MovesOn (current old) (current disk)) (sym both) (committed old newest)

  place_moves : (slot at : ℕ) (sectors : List (List ℕ)) (old new : Disk) → SlotIsFree slot h.entries → slot_at new_layout slot ≤ at → at + length sectors ≤ slot_at new_layout slot + (new_layout.full + 1)
      → IsNewest (current old) h → Begun (writes_from at sectors ++ (synced ∷ commits new_layout next)) old new → MovesOn (current old) (current new)
  place_moves slot at [] old new free from to newest (inl none) = subst (λ (disk : Disk). MovesOn (current old) (current disk)) (sym none) (stays (current old))
  place_moves slot at [] old new free from to newest (inr begun) = commit_moves (synced old) new newest begun
  place_moves slot at (bytes ∷ sectors) old new free from to newest (inl none) = subst (λ (disk : Disk). MovesOn (current old) (current disk)) (sym none) (stays (current old))
  place_moves slot at (bytes ∷ sectors) old new free from to newest (inr begun) =
      let write = one_write (current old) (Write.InSlot at bytes) (record { header = h; newest = newest; slot = slot; free = free; from = from; to = omega (arith, to) }) in
      let past : 2 ≤ at = omega (arith, from) in
      let still : IsNewest (current (wrote at bytes old)) h = subst (λ image. IsNewest image h) (sym (current-wrote old at bytes)) (newest_elsewhere (current old) at bytes h past newest) in
      moves_more (current old) (current (wrote at bytes old)) (current new)
      (subst (MovesOn (current old)) (sym (current-wrote old at bytes)) write)
      (place_moves slot (at + 1) sectors (wrote at bytes old) new free (omega (arith, from)) (omega (arith, to)) still begun)

pub calls_move_on : CallsMoveOn
calls_move_on = record {
  placed = λ old new h fallen slot w results newest free parts begun.
      place_moves h (header_placed h fallen slot) parts refl refl slot (slot_at new_layout slot) (slot_bytes new_layout w results) old new free (omega arith)
      (omega (arith, length-slot new_layout w results)) newest begun;
  passed = λ old new h newest parts begun. commit_moves h (header_passed h) parts refl refl old new newest begun;
  settled = λ old. stays (current old);
}
