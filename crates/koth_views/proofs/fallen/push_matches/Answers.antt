-- One row more.
use Rattle.{std.proofs.Common.{ℕ, List, [], ◌∷◌, ◌++◌, ◌∙◌, ap}, koth_views.specs.Fallen.challenged_cells, koth_views.proofs.Steps.one_cell_more}
use Rattle.koth_views.proofs.fallen.push_matches.Goals as goal

pub loop-i-preserved : goal.loop-i-preserved
loop-i-preserved g c =
    one_cell_more (challenged_cells c.args.hill.now c.args.bouts.now) c.args.rows.now c.loop-i.i c.index-rows-i.result c.args.lines.now.items
    c.loop-i.lines.items c.push.new.self.items c.loop-i-test.true c.index-rows-i.is c.loop-i.invariant
    (c.in_ok-push.ensures.items ∙ ap (λ (cells : List (List ℕ)). c.loop-i.lines.items ++ cells ∷ []) c.in_ok-challenged_cells.ensures)
