-- One more.
use Rattle.{std.proofs.Common.{[], ◌∷◌, ◌++◌, ◌∙◌, ap}, koth_views.specs.{declared.entrants.Entered.Entered, Roster.entered_of}, koth_views.proofs.Steps.one_cell_more}
use Rattle.koth_views.proofs.entrants.roster_of.Goals as goal

pub loop-place-preserved : goal.loop-place-preserved
loop-place-preserved g c =
    one_cell_more entered_of c.args.rows.now c.loop-place.place c.index-rows-place.result [] c.loop-place.entered.items c.push.new.self.items c.loop-place-test.true c.index-rows-place.is
    c.loop-place.invariant
    (c.in_ok-push.ensures.items ∙ ap (λ (e : Entered). c.loop-place.entered.items ++ e ∷ []) c.entered_of.ensures)
