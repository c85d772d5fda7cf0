-- The table, an empty line and the matrix.
use Rattle.{std.proofs.Common.{◌∙◌, ap}, koth_views.specs.Standing.hill_view, koth_hills.{specs.Hills.shown_matrix, proofs.Shown.table_of_parts}}
use Rattle.koth_hills.proofs.show.table_with_matches.Goals as goal

pub returns : goal.returns
returns g c = table_of_parts c.args.store.now.hill _ _ _ _ (c.in_ok-text.ensures ∙ ap hill_view c.hill.ensures)
    c.in_ok-extend_from_slice.ensures.items (c.as_slice.ensures.value ∙ c.in_ok-matrix.ensures ∙ ap shown_matrix c.hill-2.ensures)
    c.in_ok-extend_from_slice-2.ensures.items
