-- The page of a hill.
use Rattle.std.specs.Prelude.{ℕ, List, ◌++◌}
use Rattle.{koth_hill.specs.{Kept.{Kept, table_kept}, Table.RowParts}, koth_views.specs.Tally.between}
use Rattle.koth_page.specs.{declared.links.Links.Links, declared.parts.TheConstants.END, Entered.entered_rows, Settings.settings_text, Sign.SignParts, Tables.tables_text, Top.top_text}

-- the tables of these rows of a hill, by the results that it keeps
abbrev pub hill_tables : Kept → Links → List RowParts → List ℕ
hill_tables k links rows = tables_text (between k) links (entered_rows k rows)

-- the page of a hill with these rows
unfoldable pub page_of : Kept → SignParts → Links → List RowParts → List ℕ
page_of k sign links rows = top_text sign rows ++ settings_text k.settings ++ hill_tables k links rows ++ END.now

-- the page of a hill with this sign and these links
abbrev pub hill_page : Kept → SignParts → Links → List ℕ
hill_page k sign links = page_of k sign links (table_kept k)
