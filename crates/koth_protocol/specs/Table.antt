-- The warriors on a hill, a line each.
use Rattle.std.specs.Prelude.{ℕ, ◌+◌, List, [], ◌∷◌, ◌++◌, codes, decimal}
use Rattle.koth_hill.specs.Table.{RowParts}

-- the numbers of a warrior on the hill: rank, entry, score and age
abbrev pub row_numbers : ℕ → RowParts → List ℕ
row_numbers rank row = decimal rank ++ codes " " ++ decimal row.entry ++ codes " " ++ decimal row.score ++ codes " " ++ decimal row.age ++ codes " "

-- the line of a warrior on the hill: its numbers, its name and its author
abbrev pub row_line : ℕ → RowParts → List ℕ
row_line rank row = row_numbers rank row ++ row.name ++ codes " by " ++ row.author ++ codes "\n"

-- the lines of these rows, the first of them with this rank
abbrev pub row_lines : ℕ → List RowParts → List ℕ
row_lines rank [] = []
row_lines rank (row ∷ rows) = row_line rank row ++ row_lines (rank + 1) rows

-- the answer to `SHOW`
abbrev pub show_text : List RowParts → List ℕ
show_text rows = row_lines 1 rows ++ codes ".\n"
