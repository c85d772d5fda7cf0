-- The lines so far are those of the rows so far.
use Rattle.{std.proofs.Common.{◌≡◌, ◌++◌, map, take}, koth_hill.specs.Rows.rows_parts, koth_views.specs.Fallen.challenged_cells}
use Rattle.koth_views.proofs.fallen.push_matches.Given as goal

abbrev pub invariant-loop-i : goal.invariant-loop-i
invariant-loop-i g l = l.lines.items ≡ l.fn.lines.items ++ map (challenged_cells l.hill l.bouts) (take l.i (rows_parts l.rows))
