-- The slots differ if the slots of the entries that are left differ.
use Rattle.{std.proofs.Common.{◌↔◌, drop}, hill_bytes.specs.Layout.SlotsDiffer}
use Rattle.hill_bytes.proofs.header.slots_differ.Given as goal

abbrev pub invariant-loop-i : goal.invariant-loop-i
invariant-loop-i l = SlotsDiffer l.entries ↔ SlotsDiffer (drop l.i l.entries)
