-- The cells of the rows so far are pushed.
use Rattle.{std.proofs.Common.{◌≡◌, ◌++◌, take}, koth_hill.specs.Rows.rows_parts, koth_views.specs.Matrix.matrix_rows}
use Rattle.koth_views.proofs.matrix.push_rows.Given as goal

abbrev pub invariant-loop-place : goal.invariant-loop-place
invariant-loop-place g l = l.lines.items ≡ l.fn.lines.items ++ matrix_rows l.hill (rows_parts l.rows) (take l.place (rows_parts l.rows))
