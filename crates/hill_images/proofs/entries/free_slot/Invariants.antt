use Rattle.{std.proofs.Common.{◌≡◌, ℕ, ◌<◌, true}, hill_images.specs.Places.has_slot}
use Rattle.hill_images.proofs.entries.free_slot.Given as goal

abbrev pub invariant-loop-slot : goal.invariant-loop-slot
invariant-loop-slot l = (k : ℕ) → k < l.slot → has_slot k l.entries ≡ true
