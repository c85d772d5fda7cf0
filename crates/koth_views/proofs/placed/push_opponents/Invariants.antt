-- The lines so far are those of the rows so far.
use Rattle.{std.proofs.Common.{◌≡◌, ◌++◌, take}, std.specs.List.flat_map, koth_hill.specs.Rows.rows_parts, koth_views.specs.Placed.opponent_cells}
use Rattle.koth_views.proofs.placed.push_opponents.Given as goal

abbrev pub invariant-loop-i : goal.invariant-loop-i
invariant-loop-i g l = l.lines.items ≡ l.fn.lines.items ++ flat_map (opponent_cells l.hill l.entry) (take l.i (rows_parts l.rows))
