-- One cell more.
use Rattle.{std.proofs.Common.◌+◌, std.specs.List.{flat_map, range_with_len}, koth_text.specs.Columns.cell_text, koth_text.proofs.Steps.{one_number_more, put_behind}}
use Rattle.koth_text.proofs.columns.put_cells.Goals as goal

pub loop-column-preserved : goal.loop-column-preserved
loop-column-preserved g c =
    let column = c.loop-column.column in
    let f = cell_text c.args.alignments.now c.args.rows.now c.args.row.now in
    put_behind c.args.line.now.items (flat_map f (range_with_len 0 column)) (f column) (flat_map f (range_with_len 0 (column + 1))) c.loop-column.line.items c.put_cell.new.line.items
    c.loop-column.invariant c.in_ok-put_cell.ensures (one_number_more f column)
