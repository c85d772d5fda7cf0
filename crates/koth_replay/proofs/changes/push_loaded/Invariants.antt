-- The events of the cells before this one.
use Rattle.{std.proofs.Common.{◌≡◌, ◌++◌, replicate}, mars_core.specs.Cells.blank, koth_replay.specs.Turn.core_events}
use Rattle.koth_replay.proofs.changes.push_loaded.Given as goal

abbrev pub invariant-loop-at : goal.invariant-loop-at
invariant-loop-at g l = l.events.items ≡ l.fn.events.items ++ core_events l.at (replicate l.core blank) l.arena.core
