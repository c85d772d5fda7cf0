-- The matches on a hill, for people: who won, lost and tied how many rounds against whom.
use Rattle.std.specs.{Prelude.{ℕ, ◌==◌, if◌then◌else◌, List, [], ◌∷◌, ◌++◌, length, map, codes, decimal}, List.{enumerate_from, range_with_len}}
use Rattle.{koth_hill.specs.{Kept.{Kept, table_kept}, Table.RowParts}, koth_text.specs.{declared.columns.Alignment.Alignment, declared.tally.Tally.Tally, Columns.table_text}}
use Rattle.koth_views.specs.{Standing.note_of_none, Tally.between}

-- ranks and rounds at the right, names at the left
abbrev pub matrix_sides : List Alignment
matrix_sides = Alignment.Right ∷ Alignment.Left ∷ []

-- rank and name, and a column for each rank from 1 on
abbrev pub matrix_heading : ℕ → List (List ℕ)
matrix_heading count = codes "rank" ∷ codes "warrior" ∷ map decimal (range_with_len 1 count)

-- rounds won, lost and tied
abbrev pub tally_text : Tally → List ℕ
tally_text t = decimal t.won ++ codes "-" ++ decimal t.lost ++ codes "-" ++ decimal t.tied

-- what the line of one entry says of another, and of itself
abbrev pub told_of : Kept → ℕ → ℕ → List ℕ
told_of k one other = if one == other then codes "." else tally_text (between k one other)

-- the cells of a warrior with its rank: one for each of these rows
abbrev pub matrix_cells : Kept → List RowParts → ℕ → RowParts → List (List ℕ)
matrix_cells k rows rank row = decimal rank ∷ row.name ∷ map (λ other. told_of k row.entry other.entry) rows

-- the cells of these warriors, by rank from 1 on
abbrev pub matrix_rows : Kept → List RowParts → List RowParts → List (List (List ℕ))
matrix_rows k rows shown = map (λ (rank, row). matrix_cells k rows rank row) (enumerate_from 1 shown)

-- the matches of these rows
abbrev pub matrix_text : Kept → List RowParts → List ℕ
matrix_text k rows = table_text matrix_sides (matrix_heading (length rows) ∷ matrix_rows k rows rows) ++ note_of_none rows

-- the matches on a hill
abbrev pub matches_view : Kept → List ℕ
matches_view k = matrix_text k (table_kept k)
