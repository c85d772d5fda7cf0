-- The table of a hill, for people.
use Rattle.std.specs.{Prelude.{ℕ, List, [], ◌∷◌, ◌++◌, map, codes, decimal}, List.enumerate_from}
use Rattle.{koth_hill.specs.{Kept.{Kept, table_kept}, Table.RowParts}, koth_text.specs.{declared.columns.Alignment.Alignment, declared.tally.Tally.Tally, Columns.table_text}}
use Rattle.koth_views.specs.Tally.{against_all}

-- numbers at the right, texts at the left
abbrev pub hill_sides : List Alignment
hill_sides = Alignment.Right ∷ Alignment.Right ∷ Alignment.Right ∷ Alignment.Right ∷ Alignment.Right ∷ Alignment.Right ∷ Alignment.Right ∷ Alignment.Left ∷ Alignment.Left ∷ []

abbrev pub hill_heading : List (List ℕ)
hill_heading =
    codes "rank" ∷ codes "entry" ∷ codes "points" ∷ codes "won" ∷ codes "lost" ∷ codes "tied" ∷ codes "age" ∷ codes "warrior" ∷ codes "author" ∷ []

-- the cells of a warrior with its rank and its rounds
abbrev pub hill_cells : ℕ → RowParts → Tally → List (List ℕ)
hill_cells rank row rounds =
    decimal rank ∷ decimal row.entry ∷ decimal row.score ∷ decimal rounds.won ∷ decimal rounds.lost ∷ decimal rounds.tied ∷ decimal row.age ∷ row.name ∷ row.author ∷ []

-- the cells of these warriors, by rank from 1 on
abbrev pub hill_rows : Kept → List RowParts → List (List (List ℕ))
hill_rows k rows = map (λ (rank, row). hill_cells rank row (against_all k row.entry)) (enumerate_from 1 rows)

-- what stands under the table of a hill without warriors
abbrev pub note_of_none : List RowParts → List ℕ
note_of_none [] = codes "no warriors yet\n"
note_of_none (row ∷ rows) = []

-- the table of these rows
abbrev pub standing_text : Kept → List RowParts → List ℕ
standing_text k rows = table_text hill_sides (hill_heading ∷ hill_rows k rows) ++ note_of_none rows

-- the table of a hill
abbrev pub hill_view : Kept → List ℕ
hill_view k = standing_text k (table_kept k)
