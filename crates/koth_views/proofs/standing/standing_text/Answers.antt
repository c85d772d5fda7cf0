-- The lines are the headings and the rows.
use Rattle.{std.proofs.Common.{◌≡◌, ◌∙◌, ◌∷◌, ◌++◌, IfOk, ap, subst}, koth_hill.specs.Rows.rows_parts, koth_text.specs.Columns.table_text}
use Rattle.koth_views.specs.Standing.{hill_heading, hill_rows, hill_sides, note_of_none}
use Rattle.koth_views.proofs.standing.standing_text.Goals as goal

pub returns-in-Ok : goal.returns-in-Ok
returns-in-Ok g c =
    let parts = rows_parts c.args.rows.now in
    subst (λ lines. IfOk c.noted_text.result (λ text. text.items ≡ table_text hill_sides lines ++ note_of_none parts))
    (c.as_slice.ensures.value ∙ c.in-Ok.ensures ∙ ap (λ lines. lines ++ hill_heading ∷ hill_rows c.args.hill.now parts) c.new-lines.ensures.items) c.noted_text.ensures
