-- One row more.
use Rattle.{std.proofs.Common.{◌∷◌, [], ◌++◌, ◌∙◌, ap}, std.proofs.lemmas.List.map-append, koth_views.proofs.Steps.one_cell_more}
use Rattle.koth_page.specs.{Entered.entered, Ranked.{RankedParts, all_parts, ranked_parts}}
use Rattle.koth_page.proofs.entered.push_rows.Goals as goal

pub loop-place-preserved : goal.loop-place-preserved
loop-place-preserved g c =
    let loop = c.loop-place in
    let row = c.index-rows-place.result in
    let before = loop.all.items in
    one_cell_more (entered c.args.hill.now) c.args.rows.now loop.place row (all_parts c.args.all.now.items) (all_parts before) (all_parts c.push.new.self.items)
    c.loop-place-test.true c.index-rows-place.is loop.invariant
    (ap all_parts c.in_ok-push.ensures.items ∙ map-append ranked_parts before (c.entered.result ∷ [])
    ∙ ap (λ (r : RankedParts). all_parts before ++ r ∷ []) c.entered.ensures)
