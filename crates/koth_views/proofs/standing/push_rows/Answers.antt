-- One line more.
use Rattle.{std.proofs.Common.{ℕ, List, [], ◌∷◌, ◌++◌, ◌∙◌, ap}, koth_hill.specs.Table.RowParts, koth_views.specs.{Standing.hill_cells, Tally.against_all}, koth_views.proofs.Steps.one_line_more}
use Rattle.koth_views.proofs.standing.push_rows.Goals as goal

pub loop-place-preserved : goal.loop-place-preserved
loop-place-preserved g c =
    let f = λ (p : ℕ × RowParts). hill_cells p.0 p.1 (against_all c.args.hill.now p.1.entry) in
    one_line_more f c.args.rows.now c.loop-place.place c.index-rows-place.result c.args.lines.now.items c.loop-place.lines.items c.push.new.self.items c.loop-place-test.true c.index-rows-place.is
    c.loop-place.invariant
    (c.in_ok-push.ensures.items ∙ ap (λ (cells : List (List ℕ)). c.loop-place.lines.items ++ cells ∷ []) c.in_ok-cells_of.ensures)
