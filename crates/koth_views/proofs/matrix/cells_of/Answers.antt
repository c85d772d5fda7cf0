-- One cell more.
use Rattle.{std.proofs.Common.{ℕ, List, [], ◌∷◌, ◌++◌, ◌∙◌, ap, decimal, sym}, koth_hill.specs.{declared.row.Row.Row, Table.RowParts}, koth_views.specs.Matrix.told_of}
use Rattle.koth_views.proofs.Steps.{one_cell_more}
use Rattle.koth_views.proofs.matrix.cells_of.Goals as goal

pub loop-place-preserved : goal.loop-place-preserved
loop-place-preserved g c =
    let row = c.args.row.now in
    let f = λ (other : RowParts). told_of c.args.hill.now row.entry other.entry in
    one_cell_more f c.args.rows.now c.loop-place.place c.index-rows-place.result (decimal c.args.rank ∷ row.name.now ∷ []) c.loop-place.cells c.push.new.self c.loop-place-test.true
    c.index-rows-place.is c.loop-place.invariant (c.in_ok-push.ensures ∙ ap (λ (cell : List ℕ). c.loop-place.cells ++ cell ∷ []) c.told_of.ensures
    ∙ ap (λ (other : Row). c.loop-place.cells ++ told_of c.args.hill.now row.entry other.entry ∷ []) (sym c.index-rows-place.is))
