-- The entries rise if those that are left rise from the last one on.
use Rattle.{std.proofs.Common.{◌↔◌, drop}, hill_bytes.specs.Layout.EntriesRise}
use Rattle.hill_bytes.proofs.header.entries_rise.Given as goal

abbrev pub invariant-loop-entry : goal.invariant-loop-entry
invariant-loop-entry l = EntriesRise 0 l.entries ↔ EntriesRise l.before (drop l.entry-index l.entries)
