-- Who stands on a hill.
use Rattle.{std.specs.Prelude.{List, map}, koth_hill.specs.{Kept.{Kept, table_kept}, Table.RowParts}, koth_views.specs.declared.entrants.Entered.Entered}

-- entry, name and author of a row
abbrev pub entered_of : RowParts → Entered
entered_of row = record { entry = row.entry; name = row.name; author = row.author }

-- the warriors of these rows
abbrev pub roster_of : List RowParts → List Entered
roster_of rows = map entered_of rows

-- all on a hill, by rank
abbrev pub roster : Kept → List Entered
roster k = roster_of (table_kept k)
