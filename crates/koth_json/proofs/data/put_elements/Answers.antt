-- One element more.
use Rattle.{std.proofs.Common.{ℕ}, koth_hill.specs.Table.RowParts}
use Rattle.koth_json.{specs.Data.{row_element}, proofs.Lines.{row_more}}
use Rattle.koth_json.proofs.data.put_elements.Goals as goal

pub loop-place-preserved : goal.loop-place-preserved
loop-place-preserved g c =
    row_more (λ (p : ℕ × RowParts). row_element c.args.hill.now p.0 p.1) c.args.rows.now c.loop-place.place c.index-rows-place.result c.args.text.now.items c.loop-place.text.items c.put_element.new.text.items
    c.loop-place-test.true c.index-rows-place.is c.loop-place.invariant c.in_ok-put_element.ensures
