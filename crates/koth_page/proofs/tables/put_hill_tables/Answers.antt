-- The rows that were made are those of the hill.
use Rattle.{std.proofs.Common.{◌++◌, ◌∙◌, List, ap}, koth_views.specs.Tally.between, koth_page.specs.{Ranked.{RankedParts, all_parts}, Tables.tables_text}}
use Rattle.koth_page.specs.declared.ranked.Ranked.{Ranked}
use Rattle.koth_page.proofs.tables.put_hill_tables.Goals as goal

pub returns : goal.returns
returns g c =
    let a = c.args in
    c.in_ok-put_tables.ensures ∙ ap (λ (rows : List Ranked). a.page.now.items ++ tables_text (between a.hill.now) a.links (all_parts rows)) c.as_slice.ensures.value
    ∙ ap (λ (rows : List RankedParts). a.page.now.items ++ tables_text (between a.hill.now) a.links rows) c.in_ok-entered.ensures
