-- One line more.
use Rattle.{std.proofs.Common.{ℕ, List, [], ◌∷◌, ◌++◌, ◌∙◌, ap}, koth_hill.specs.{Rows.rows_parts, Table.RowParts}, koth_views.specs.Matrix.matrix_cells, koth_views.proofs.Steps.one_line_more}
use Rattle.koth_views.proofs.matrix.push_rows.Goals as goal

pub loop-place-preserved : goal.loop-place-preserved
loop-place-preserved g c =
    let rows = c.args.rows.now in
    let f = λ (p : ℕ × RowParts). matrix_cells c.args.hill.now (rows_parts rows) p.0 p.1 in
    one_line_more f rows c.loop-place.place c.index-rows-place.result c.args.lines.now.items c.loop-place.lines.items c.push.new.self.items c.loop-place-test.true c.index-rows-place.is
    c.loop-place.invariant
    (c.in_ok-push.ensures.items ∙ ap (λ (cells : List (List ℕ)). c.loop-place.lines.items ++ cells ∷ []) c.in_ok-cells_of.ensures)
