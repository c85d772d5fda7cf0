-- Texts in columns.
use Rattle.std.specs.{Prelude.{ℕ, ◌-◌, ◌==◌, max, if◌then◌else◌, List, [], ◌∷◌, ◌++◌, length, replicate, slice_index_or, codes}, List.{flat_map, range_with_len}}
use Rattle.{war_types.specs.Title.before_blanks, koth_text.specs.declared.columns.Alignment.Alignment}

-- a text at one side of `places` places; a longer text stands as it is
abbrev pub padded : Alignment → ℕ → List ℕ → List ℕ
padded Alignment.Left places text = text ++ replicate (places - length text) 32
padded Alignment.Right places text = replicate (places - length text) 32 ++ text

-- the cell of a row in a column, counted from 0: empty past its last one
abbrev pub cell_at : List (List ℕ) → ℕ → List ℕ
cell_at row column = slice_index_or row column []

-- the greatest length of a cell in a column
abbrev pub width : List (List (List ℕ)) → ℕ → ℕ
width [] column = 0
width (row ∷ rows) column = max (length (cell_at row column)) (width rows column)

-- the side of a column: the right past the last that is given
abbrev pub alignment_at : List Alignment → ℕ → Alignment
alignment_at alignments column = slice_index_or alignments column Alignment.Right

-- two blanks before each column but the first
abbrev pub gap : ℕ → List ℕ
gap column = if column == 0 then [] else codes "  "

-- the cell of a row, as it stands in a column of these rows
abbrev pub cell_text : List Alignment → List (List (List ℕ)) → List (List ℕ) → ℕ → List ℕ
cell_text alignments rows row column = gap column ++ padded (alignment_at alignments column) (width rows column) (cell_at row column)

-- the cells of a row side by side
abbrev pub cells_text : List Alignment → List (List (List ℕ)) → List (List ℕ) → List ℕ
cells_text alignments rows row = flat_map (cell_text alignments rows row) (range_with_len 0 (length row))

-- the line of a row, without blanks at its end
abbrev pub row_text : List Alignment → List (List (List ℕ)) → List (List ℕ) → List ℕ
row_text alignments rows row = before_blanks (cells_text alignments rows row) ++ codes "\n"

-- the lines of these rows: each column as wide as the longest of its cells
abbrev pub columns_text : List Alignment → List (List (List ℕ)) → List ℕ
columns_text alignments rows = flat_map (row_text alignments rows) rows

-- the same of a table, whose first row has the headings: nothing if it has no other row
abbrev pub table_text : List Alignment → List (List (List ℕ)) → List ℕ
table_text alignments [] = []
table_text alignments (heading ∷ []) = []
table_text alignments (heading ∷ row ∷ rows) = columns_text alignments (heading ∷ row ∷ rows)
