-- What a challenger that falls is told of those that stay.
use Rattle.std.specs.Prelude.{ℕ, ◌+◌, ◌==◌, nat_lt, if◌then◌else◌, List, [], ◌∷◌, ◌++◌, Option, None, Some, drop, map, codes}
use Rattle.{koth_match.specs.{declared.bout.Bout.Bout, Match.no_rounds}, koth_hill.specs.{Hill.older_points, Kept.Kept}}
use Rattle.koth_hill.specs.{Kept.{entries_of, table_kept}, Table.RowParts}
use Rattle.koth_text.specs.{Bout.{rounds_cells, rounds_heading, rounds_sides}, Columns.table_text, Tally.of_younger}
use Rattle.koth_views.specs.Placed.{points_text}

-- the first of these results, if there is one
abbrev pub first_bout : List Bout → Bout
first_bout [] = no_rounds
first_bout (b ∷ bouts) = b

-- of these results, each of the entry at its place, that of this entry
abbrev pub bout_of : List ℕ → List Bout → ℕ → Bout
bout_of [] bouts entry = no_rounds
bout_of (e ∷ entries) bouts entry = if e == entry then first_bout bouts else bout_of entries (drop 1 bouts) entry

-- the result with the challenger of the warrior in a row, who is the older
abbrev pub bout_with : Kept → List Bout → RowParts → Bout
bout_with k bouts row = bout_of (entries_of k.members) bouts row.entry

-- its points against all others on the hill and against the challenger
abbrev pub points_with : Kept → List Bout → RowParts → ℕ
points_with k bouts row = row.score + older_points (bout_with k bouts row)

-- the least of a number and those of these rows
abbrev pub least_with : Kept → List Bout → ℕ → List RowParts → ℕ
least_with k bouts least [] = least
least_with k bouts least (row ∷ rows) = least_with k bouts (if nat_lt (points_with k bouts row) least then points_with k bouts row else least) rows

-- the least points of those in these rows, if there are any
abbrev pub least_among : Kept → List Bout → List RowParts → Option ℕ
least_among k bouts [] = None
least_among k bouts (row ∷ rows) = Some (least_with k bouts (points_with k bouts row) rows)

-- the least points of those on the hill against all others on it and against the challenger, if anyone is on it
abbrev pub least_of : Kept → List Bout → Option ℕ
least_of k bouts = least_among k bouts (table_kept k)

-- the line about the least of those that stay
abbrev pub least_line : ℕ → List ℕ
least_line least = codes "the lowest that stays has " ++ points_text least ++ codes "\n"

-- the cells of an opponent, with the rounds from the challenger's side
abbrev pub challenged_cells : Kept → List Bout → RowParts → List (List ℕ)
challenged_cells k bouts row = rounds_cells row.name row.author (of_younger (bout_with k bouts row))

-- the matches with the warriors in these rows
abbrev pub challenged_among : Kept → List Bout → List RowParts → List ℕ
challenged_among k bouts rows = table_text rounds_sides (rounds_heading ∷ map (challenged_cells k bouts) rows)

-- by the results of a challenger's matches with all on the hill: the matches by rank
abbrev pub challenged_view : Kept → List Bout → List ℕ
challenged_view k bouts = challenged_among k bouts (table_kept k)

-- the least points of those in these rows, the first of them by itself, and the matches with them
abbrev pub fallen_among : Kept → List Bout → List RowParts → List ℕ
fallen_among k bouts [] = []
fallen_among k bouts (row ∷ rows) =
    least_line (least_with k bouts (points_with k bouts row) rows) ++ challenged_among k bouts (row ∷ rows)

-- the least points with which one stays, and the matches by rank
abbrev pub fallen_view : Kept → List Bout → List ℕ
fallen_view k bouts = fallen_among k bouts (table_kept k)
