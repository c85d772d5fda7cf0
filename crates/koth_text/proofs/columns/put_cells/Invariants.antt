-- The cells so far are those of the columns so far.
use Rattle.{std.proofs.Common.{◌≡◌, ◌++◌}, std.specs.List.{flat_map, range_with_len}, koth_text.specs.Columns.cell_text}
use Rattle.koth_text.proofs.columns.put_cells.Given as goal

abbrev pub invariant-loop-column : goal.invariant-loop-column
invariant-loop-column g l = l.line.items ≡ l.fn.line.items ++ flat_map (cell_text l.alignments l.rows l.row) (range_with_len 0 l.column)
