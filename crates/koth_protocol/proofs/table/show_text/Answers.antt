-- One row more.
use Rattle.{std.proofs.Common.{◌≡◌, ◌+◌, ◌++◌, ◌∙◌, ap, arith, rules, sym, take}, koth_hill.specs.Rows.{row_parts, rows_parts}, koth_protocol.specs.Table.{row_line, row_lines}}
use Rattle.koth_protocol.proofs.RowLines.{one_more}
use Rattle.koth_protocol.proofs.table.show_text.Goals as goal

pub loop-place-preserved : goal.loop-place-preserved
loop-place-preserved g c =
    let rows = c.args.rows.now in
    let place = c.loop-place.place in
    let row = c.index-rows-place.result in
    let next : place + 1 ≡ 1 + place = omega arith in
    c.in_ok-put_row.ensures ∙ ap (λ l. l ++ row_line (place + 1) (row_parts row)) c.loop-place.invariant
    ∙ ap (λ n. row_lines 1 (take place (rows_parts rows)) ++ row_line n (row_parts row)) next
    ∙ sym (one_more 1 rows place row c.loop-place-test.true (search rules))
