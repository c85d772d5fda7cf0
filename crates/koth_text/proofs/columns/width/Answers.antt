-- One row more.
use Rattle.{std.proofs.Common.{ℕ, List, ◌∙◌, ap, length, max, sym}, koth_text.specs.Columns.cell_at, koth_text.proofs.Steps.one_width_more}
use Rattle.koth_text.proofs.columns.width.Goals as goal

pub loop-place-preserved : goal.loop-place-preserved
loop-place-preserved g c =
    let row = c.index-rows-place.result in
    c.max-width.ensures ∙ ap (λ (t : List ℕ). max (length t) c.loop-place.width) c.cell.ensures
    ∙ ap (λ n. max (length (cell_at row c.args.column)) n) c.loop-place.invariant
    ∙ sym (one_width_more c.args.rows.now c.args.column c.loop-place.place row c.loop-place-test.true c.index-rows-place.is)
