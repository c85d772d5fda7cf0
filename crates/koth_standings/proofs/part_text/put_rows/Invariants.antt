-- The lines of the first rows are put.
use Rattle.{std.proofs.Common.{◌≡◌, ◌++◌, map, take}, koth_standings.specs.PartText.{row_parts, rows_text}}
use Rattle.koth_standings.proofs.part_text.put_rows.Given as goal

abbrev pub invariant-loop-row : goal.invariant-loop-row
invariant-loop-row g l = l.text.items ≡ l.fn.text.items ++ rows_text (map row_parts (take l.row-index l.rows))
