-- The lines of the table, as the program gives them.
use Rattle.{std.specs.Prelude.{List, map}, koth_hill.specs.{declared.row.Row.Row, Table.RowParts}}

abbrev pub row_parts : Row → RowParts
row_parts r = record { entry = r.entry; name = r.name.now; author = r.author.now; score = r.score; age = r.age }

abbrev pub rows_parts : List Row → List RowParts
rows_parts rows = map row_parts rows
