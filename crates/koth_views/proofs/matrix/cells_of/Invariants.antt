-- The cells so far are those of the rows so far.
use Rattle.{std.proofs.Common.{◌≡◌, take}, koth_hill.specs.Rows.{row_parts, rows_parts}, koth_views.specs.Matrix.matrix_cells}
use Rattle.koth_views.proofs.matrix.cells_of.Given as goal

abbrev pub invariant-loop-place : goal.invariant-loop-place
invariant-loop-place g l = l.cells ≡ matrix_cells l.hill (take l.place (rows_parts l.rows)) l.rank (row_parts l.row)
