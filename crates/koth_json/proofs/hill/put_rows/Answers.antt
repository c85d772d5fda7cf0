-- One line more.
use Rattle.{std.proofs.Common.{ℕ}, koth_hill.specs.Table.RowParts}
use Rattle.koth_json.{specs.Hill.{row_line}, proofs.Lines.{row_more}}
use Rattle.koth_json.proofs.hill.put_rows.Goals as goal

pub loop-place-preserved : goal.loop-place-preserved
loop-place-preserved g c =
    row_more (λ (p : ℕ × RowParts). row_line c.args.hill.now p.0 p.1) c.args.rows.now c.loop-place.place c.index-rows-place.result c.args.lines.now.items c.loop-place.lines.items c.put_row.new.lines.items
    c.loop-place-test.true c.index-rows-place.is c.loop-place.invariant c.in_ok-put_row.ensures
