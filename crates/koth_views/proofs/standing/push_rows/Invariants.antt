-- The cells of the rows so far are pushed.
use Rattle.{std.proofs.Common.{◌≡◌, ◌++◌, take}, koth_hill.specs.Rows.rows_parts, koth_views.specs.Standing.hill_rows}
use Rattle.koth_views.proofs.standing.push_rows.Given as goal

abbrev pub invariant-loop-place : goal.invariant-loop-place
invariant-loop-place g l = l.lines.items ≡ l.fn.lines.items ++ hill_rows l.hill (take l.place (rows_parts l.rows))
