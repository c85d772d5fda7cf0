-- The results so far, with those that are left, are all.
use Rattle.{std.proofs.Common.{◌≡◌, drop, length}, hill_images.specs.Places.{results_onto, results_by_slot}}
use Rattle.hill_images.proofs.entries.results_by_slot.Given as goal

abbrev pub invariant-loop-i : goal.invariant-loop-i
invariant-loop-i l = record {
  all : results_onto l.results (drop l.i l.entries) (drop l.i l.bouts) ≡ results_by_slot l.entries l.bouts;
  len : length l.results ≡ 21;
}
