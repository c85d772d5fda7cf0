-- The table of warriors by rank.
use Rattle.std.specs.{Prelude.{ℕ, List, [], ◌∷◌, ◌++◌, codes}, List.{enumerate_from, flat_map}}
use Rattle.koth_page.specs.{declared.parts.TheConstants.{STANDING_START, TABLE_END}, Cells.{name_cell, name_heading, number_cell, number_cells}, Ranked.{OriginParts, RankedParts}}

-- the headings of the columns that say where a warrior is from
abbrev pub headings_for : OriginParts → List ℕ
headings_for (OriginParts.Entered age) = codes "<th scope=\"col\">age</th><th scope=\"col\">entry</th>"
headings_for (OriginParts.File file) = codes "<th scope=\"col\" class=\"name\">file</th>"

-- of the first of these, and so of each
abbrev pub origin_headings : List RankedParts → List ℕ
origin_headings [] = []
origin_headings (row ∷ rows) = headings_for row.origin

-- the headings that each table has
unfoldable pub standing_start : List ℕ
standing_start =
    codes "<thead><tr><th scope=\"col\">rank</th><th scope=\"col\" class=\"name\">warrior</th><th scope=\"col\" class=\"name\">author</th><th scope=\"col\">points</th><th scope=\"col\">won</th><th scope=\"col\">lost</th><th scope=\"col\">tied</th>"

unfoldable pub standing_heading : List RankedParts → List ℕ
standing_heading rows = standing_start ++ origin_headings rows ++ codes "</tr></thead>\n"

-- the rank of a warrior, and whose it is
unfoldable pub ranked_text : ℕ → RankedParts → List ℕ
ranked_text rank row = codes "<tr>" ++ number_cell rank ++ name_heading row.name ++ name_cell row.author

-- where a warrior with this number is from: its age on a hill and its entry, or its file
abbrev pub cells_for : ℕ → OriginParts → List ℕ
cells_for number (OriginParts.Entered age) = number_cells (age ∷ number ∷ [])
cells_for number (OriginParts.File file) = name_cell file

abbrev pub origin_cells : RankedParts → List ℕ
origin_cells row = cells_for row.number row.origin

-- the row of a warrior with its rank
unfoldable pub standing_row : ℕ → RankedParts → List ℕ
standing_row rank row =
    ranked_text rank row ++ number_cells (row.points ∷ row.rounds.won ∷ row.rounds.lost ∷ row.rounds.tied ∷ [])
    ++ origin_cells row ++ codes "</tr>\n"

-- the rows of these warriors, by rank from 1 on
abbrev pub standing_rows : List RankedParts → List ℕ
standing_rows rows = flat_map (λ (rank, row). standing_row rank row) (enumerate_from 1 rows)

-- the table of these rows
unfoldable pub standing_text : List RankedParts → List ℕ
standing_text rows = STANDING_START.now ++ standing_heading rows ++ standing_rows rows ++ TABLE_END.now
