-- What the cells before this one hold.
use Rattle.{std.proofs.Common.{◌≡◌, ◌++◌, map, take, drop, replicate}, mars_core.specs.Cells.{blank, cell}}
use Rattle.koth_replay.proofs.changes.held_at.Given as goal

abbrev pub invariant-loop-place : goal.invariant-loop-place
invariant-loop-place g l = l.held ≡ take l.place (map (cell l.arena.core) l.addresses) ++ drop l.place (replicate 8 blank)
