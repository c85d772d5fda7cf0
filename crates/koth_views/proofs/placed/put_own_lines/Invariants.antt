-- The lines so far are those of the rows so far.
use Rattle.{std.proofs.Common.{◌≡◌, ◌++◌, length, take}, std.specs.List.flat_map, koth_hill.specs.Rows.rows_parts, koth_views.specs.Placed.own_line}
use Rattle.koth_views.proofs.placed.put_own_lines.Given as goal

abbrev pub invariant-loop-i : goal.invariant-loop-i
invariant-loop-i g l = l.text.items ≡ l.fn.text.items ++ flat_map (own_line l.place (length (rows_parts l.rows))) (take l.i (rows_parts l.rows))
