-- One row more.
use Rattle.{std.proofs.{Common.{length, ◌∙◌, ◌++◌, ap, sym}, lemmas.List.length-map}, koth_hill.specs.Rows.{row_parts, rows_parts}, koth_text.proofs.Steps.one_part_more}
use Rattle.{koth_views.specs.Placed.own_line, koth_views.proofs.Steps.{below_parts, row_at}}
use Rattle.koth_views.proofs.placed.put_own_lines.Goals as goal

pub loop-i-preserved : goal.loop-i-preserved
loop-i-preserved g c =
    let rows = c.args.rows.now in
    let parts = rows_parts rows in
    let row = c.index-rows-i.result in
    one_part_more (own_line c.args.place (length parts)) parts c.loop-i.i (row_parts row) c.args.text.now.items c.loop-i.text.items c.put_own_line.new.text.items
    (below_parts rows c.loop-i.i c.loop-i-test.true) (row_at rows c.loop-i.i row c.loop-i-test.true c.index-rows-i.is) c.loop-i.invariant
    (c.in_ok-put_own_line.ensures ∙ ap (λ n. c.loop-i.text.items ++ own_line c.args.place n (row_parts row)) (sym (length-map rows row_parts)))
