-- The sectors so far are the slot's.
use Rattle.{std.proofs.Common.{◌≡◌, length, take}, hill_bytes.specs.Layout.{new_layout, slot_bytes}}
use Rattle.hill_bytes.proofs.slot.Slot.encode.Given as goal

abbrev pub invariant-loop-n : goal.invariant-loop-n
invariant-loop-n g l = record {
  value : take l.n l.sectors ≡ take l.n (slot_bytes new_layout l.fn.warrior l.fn.results);
  len : length l.sectors ≡ 4;
}
