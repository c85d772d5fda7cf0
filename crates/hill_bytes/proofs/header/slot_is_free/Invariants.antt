-- The slot is free if it is free among the entries that are left.
use Rattle.{std.proofs.Common.{◌↔◌, drop}, hill_bytes.specs.Layout.SlotIsFree}
use Rattle.hill_bytes.proofs.header.slot_is_free.Given as goal

abbrev pub invariant-loop-entry : goal.invariant-loop-entry
invariant-loop-entry l = SlotIsFree l.slot l.entries ↔ SlotIsFree l.slot (drop l.entry-index l.entries)
