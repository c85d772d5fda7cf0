-- What became of a warrior that was submitted, for people.
use Rattle.std.specs.{Prelude.{ℕ, ◌==◌, Bool, true, false, if◌then◌else◌, List, [], ◌∷◌, ◌++◌, length, codes, decimal}, List.flat_map}
use Rattle.{koth_hill.specs.{Kept.{Kept, table_kept}, Table.RowParts}, koth_text.specs.{Bout.{rounds_cells, rounds_heading, rounds_sides}, Columns.table_text}}
use Rattle.koth_views.specs.{declared.entrants.Entered.Entered, declared.placed.Place.Place, Tally.between}

-- points, in words
abbrev pub points_text : ℕ → List ℕ
points_text points = decimal points ++ (if points == 1 then codes " point" else codes " points")

-- a warrior and its author
abbrev pub who_text : List ℕ → List ℕ → List ℕ
who_text name author = name ++ codes " by " ++ author

-- an entry
abbrev pub entry_text : ℕ → List ℕ
entry_text entry = codes " is warrior " ++ decimal entry ++ codes " of this hill: "

-- a rank among `count`
abbrev pub rank_text : ℕ → ℕ → List ℕ
rank_text rank count = codes "rank " ++ decimal rank ++ codes " of " ++ decimal count

-- its entry, its rank among `count`, and its points
abbrev pub place_text : Place → ℕ → List ℕ
place_text place count = entry_text place.entry ++ rank_text place.rank count ++ codes ", " ++ points_text place.score ++ codes "\n"

-- the line of the warrior that was placed, if it is in this row
abbrev pub own_line : Place → ℕ → RowParts → List ℕ
own_line place count row = if row.entry == place.entry then who_text row.name row.author ++ place_text place count else []

-- and if it is in one of these rows
abbrev pub own_lines : Place → List RowParts → List ℕ
own_lines place rows = flat_map (own_line place (length rows)) rows

-- whether an entry is in one of these rows
abbrev pub is_on : List RowParts → ℕ → Bool
is_on [] entry = false
is_on (row ∷ rows) entry = if row.entry == entry then true else is_on rows entry

-- the line of a warrior that is in none of these rows
abbrev pub fallen_line : List RowParts → Entered → List ℕ
fallen_line rows one = if is_on rows one.entry then [] else who_text one.name one.author ++ codes " (entry " ++ decimal one.entry ++ codes ") fell\n"

-- the lines of the warriors that stood before and are in none of these rows
abbrev pub fallen_lines : List RowParts → List Entered → List ℕ
fallen_lines rows before = flat_map (fallen_line rows) before

-- the cells of an opponent, with the rounds from the entry's side; none for the entry itself
abbrev pub opponent_cells : Kept → ℕ → RowParts → List (List (List ℕ))
opponent_cells k entry row = if row.entry == entry then [] else rounds_cells row.name row.author (between k entry row.entry) ∷ []

-- the matches of this entry against the warriors of these rows, from its side
abbrev pub opponents_text : Kept → ℕ → List RowParts → List ℕ
opponents_text k entry rows = table_text rounds_sides (rounds_heading ∷ flat_map (opponent_cells k entry) rows)

-- a warrior that was placed, by who stood before and the rows after it: its place, who fell, and its matches by rank
abbrev pub placed_among : List Entered → Kept → List RowParts → Place → List ℕ
placed_among before k rows place = own_lines place rows ++ fallen_lines rows before ++ opponents_text k place.entry rows

abbrev pub placed_text : List Entered → Kept → Place → List ℕ
placed_text before k place = placed_among before k (table_kept k) place

-- an entry that fell at once
abbrev pub fell_text : ℕ → ℕ → List ℕ
fell_text entry score = codes "entry " ++ decimal entry ++ codes " with " ++ points_text score ++ codes " fell: it is not on the hill\n"
