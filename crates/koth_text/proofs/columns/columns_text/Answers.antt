-- One line more, and all of them at the end.
use Rattle.{std.proofs.Common.{ℕ, List, [], ap, ◌∙◌}, std.specs.List.flat_map, std.proofs.lemmas.List.take_all, koth_text.specs.Columns.row_text, koth_text.proofs.Steps.one_part_more}
use Rattle.koth_text.proofs.columns.columns_text.Goals as goal

pub loop-place-preserved : goal.loop-place-preserved
loop-place-preserved g c =
    one_part_more (row_text c.args.alignments.now c.args.rows.now) c.args.rows.now c.loop-place.place c.index-rows-place.result [] c.loop-place.text.items c.put_row.new.text.items c.loop-place-test.true
    c.index-rows-place.is c.loop-place.invariant c.in_ok-put_row.ensures

pub returns : goal.returns
returns g c =
    let rows = c.args.rows.now in
    c.loop-place.invariant ∙ ap (λ (shown : List (List (List ℕ))). flat_map (row_text c.args.alignments.now rows) shown) (take_all c.loop-place.place rows c.loop-place-test.false)
