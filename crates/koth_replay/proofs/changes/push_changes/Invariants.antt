-- The events of the cells before this number.
use Rattle.{std.proofs.Common.{◌≡◌, ◌≤◌, ◌-◌, ◌++◌, List, map}, war_types.specs.declared.instr.Instr.Instr, mars_core.specs.{Cells.cell, Touched.AreSameBut}, koth_replay.specs.Turn.core_events}
use Rattle.koth_replay.proofs.changes.push_changes.Given as goal

abbrev pub invariant-loop-place : goal.invariant-loop-place
invariant-loop-place g l = record {
  events : (before : List Instr) → l.held ≡ map (cell before) l.addresses → AreSameBut l.addresses before l.arena.core → l.events.items ≡ l.fn.events.items ++ core_events l.from before l.arena.core;
  within : l.from ≤ l.core;
}

abbrev pub decreases-loop-place : goal.decreases-loop-place
decreases-loop-place g l = l.core - l.from
