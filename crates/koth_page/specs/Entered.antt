-- The rows of a hill, as its page shows them.
use Rattle.std.specs.Prelude.{List, map}
use Rattle.{koth_hill.specs.{Kept.Kept, Table.RowParts}, koth_views.specs.Tally.against_all, koth_page.specs.Ranked.{OriginParts, RankedParts}}

-- a row of a hill with its rounds against all others there
abbrev pub entered : Kept → RowParts → RankedParts
entered k row =
    record {
      number = row.entry;
      name = row.name;
      author = row.author;
      points = row.score;
      rounds = against_all k row.entry;
      origin = OriginParts.Entered row.age;
    }

abbrev pub entered_rows : Kept → List RowParts → List RankedParts
entered_rows k rows = map (entered k) rows
