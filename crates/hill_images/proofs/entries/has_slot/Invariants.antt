use Rattle.{std.proofs.Common.{◌≡◌, drop}, hill_images.specs.Places.has_slot}
use Rattle.hill_images.proofs.entries.has_slot.Given as goal

abbrev pub invariant-loop-e : goal.invariant-loop-e
invariant-loop-e l = has_slot l.slot l.entries ≡ has_slot l.slot (drop l.e-index l.entries)
