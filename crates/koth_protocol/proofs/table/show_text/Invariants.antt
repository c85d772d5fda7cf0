-- The lines so far are those of the rows so far.
use Rattle.{std.proofs.Common.{◌≡◌, take}, koth_hill.specs.Rows.rows_parts, koth_protocol.specs.Table.row_lines}
use Rattle.koth_protocol.proofs.table.show_text.Given as goal

abbrev pub invariant-loop-place : goal.invariant-loop-place
invariant-loop-place g l = l.text.items ≡ row_lines 1 (take l.place (rows_parts l.rows))
