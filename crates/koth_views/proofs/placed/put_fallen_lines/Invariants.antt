-- The lines so far are those of the warriors so far.
use Rattle.{std.proofs.Common.{◌≡◌, ◌++◌, take}, std.specs.List.flat_map, koth_hill.specs.Rows.rows_parts, koth_views.specs.Placed.fallen_line}
use Rattle.koth_views.proofs.placed.put_fallen_lines.Given as goal

abbrev pub invariant-loop-i : goal.invariant-loop-i
invariant-loop-i g l = l.text.items ≡ l.fn.text.items ++ flat_map (fallen_line (rows_parts l.rows)) (take l.i l.before)
