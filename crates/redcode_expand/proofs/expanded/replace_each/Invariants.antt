-- The lines so far, and what those left become, are what all become; no more steps are spent than may be, and none without an EQU; those that are spent, and those of the lines left, are no more than all take.
use Rattle.{std.proofs.Common.{◌≡◌, ◌≤◌, ◌+◌, [], length}, std.specs.Vec.Iter.{into_iter_items, into_iter_len}, redcode_expand.specs.{Expansion.all_replaced, Taken.lines_steps}, redcode_expand.proofs.Unchanged.with_front}
use Rattle.redcode_expand.proofs.expanded.replace_each.Given as goal

abbrev pub invariant-loop-entry : goal.invariant-loop-entry
invariant-loop-entry g l =
    (with_front l.lines.items (all_replaced l.names.equs (into_iter_items l.entry-iterator)) ≡ all_replaced l.names.equs l.fn.entries.items)
    × (into_iter_len l.entry-iterator ≡ length (into_iter_items l.entry-iterator))
    × (l.floor ≤ l.steps)
    × (l.steps ≤ l.initial.steps)
    × (l.names.equs ≡ [] → l.steps ≡ l.initial.steps)
    × (l.initial.steps + lines_steps l.names.equs (into_iter_items l.entry-iterator) ≤ l.steps + lines_steps l.names.equs l.fn.entries.items)
