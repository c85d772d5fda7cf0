-- One heading more.
use Rattle.{std.proofs.Common.{ℕ, List, [], ◌∷◌, ◌++◌, ◌∙◌, ap, codes, decimal}, koth_views.proofs.Steps.one_heading_more}
use Rattle.koth_views.proofs.matrix.heading.Goals as goal

pub loop-place-preserved : goal.loop-place-preserved
loop-place-preserved g c =
    one_heading_more decimal c.loop-place.place (codes "rank" ∷ codes "warrior" ∷ []) c.loop-place.cells c.push.new.self c.loop-place.invariant
    (c.in_ok-push.ensures ∙ ap (λ (cell : List ℕ). c.loop-place.cells ++ cell ∷ []) c.number.ensures.value)
