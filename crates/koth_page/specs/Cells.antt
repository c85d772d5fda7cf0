-- Cells of a table.
use Rattle.std.specs.{Prelude.{ℕ, List, ◌++◌, codes, decimal}, List.flat_map}
use Rattle.koth_text.specs.Escape.{escaped}

-- a number
unfoldable pub number_cell : ℕ → List ℕ
number_cell n = codes "<td>" ++ decimal n ++ codes "</td>"

-- a number each
abbrev pub number_cells : List ℕ → List ℕ
number_cells ns = flat_map number_cell ns

-- a name
unfoldable pub name_cell : List ℕ → List ℕ
name_cell name = codes "<td class=\"name\">" ++ escaped name ++ codes "</td>"

-- the name of the warrior of a row, of which it is the heading
unfoldable pub name_heading : List ℕ → List ℕ
name_heading name = codes "<th scope=\"row\" class=\"name\">" ++ escaped name ++ codes "</th>"
