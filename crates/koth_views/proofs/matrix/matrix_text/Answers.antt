-- The lines are the headings and the rows.
use Rattle.{std.proofs.{Common.{◌≡◌, ◌∙◌, [], ◌∷◌, ◌++◌, length, IfOk, ap, subst, sym}, lemmas.List.length-map}, koth_hill.specs.Rows.{row_parts, rows_parts}}
use Rattle.{koth_text.specs.Columns.table_text, koth_views.specs.{Matrix.{matrix_heading, matrix_rows, matrix_sides}, Standing.note_of_none}}
use Rattle.koth_views.proofs.matrix.matrix_text.Goals as goal

pub returns : goal.returns
returns g c =
    let rows = c.args.rows.now in
    let parts = rows_parts rows in
    subst (λ lines. IfOk c.noted_text.result (λ text. text.items ≡ table_text matrix_sides lines ++ note_of_none parts))
    (c.as_slice.ensures.value ∙ c.in_ok-push_rows.ensures ∙ ap (λ lines. lines ++ matrix_rows c.args.hill.now parts parts) (c.in_ok-push.ensures.items
    ∙ ap (λ cells. c.new-lines.result.items ++ cells ∷ []) c.in_ok-heading.ensures ∙ ap (λ lines. lines ++ matrix_heading (length rows) ∷ []) c.new-lines.ensures.items
    ∙ ap (λ count. matrix_heading count ∷ []) (sym (length-map rows row_parts)))) c.noted_text.ensures
