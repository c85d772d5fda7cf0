-- The results so far are the first of them.
use Rattle.{std.proofs.Common.{◌≡◌, length, take}, hill_bytes.specs.Layout.{new_layout, results_in}}
use Rattle.hill_bytes.proofs.slot.Slot.results.Given as goal

abbrev pub invariant-loop-place : goal.invariant-loop-place
invariant-loop-place l = record {
  value : take l.place l.results ≡ take l.place (results_in new_layout l.self.sectors);
  len : length l.results ≡ 21;
}
