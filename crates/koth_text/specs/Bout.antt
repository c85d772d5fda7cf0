-- The counts of one match, for people.
use Rattle.std.specs.Prelude.{ℕ, List, [], ◌∷◌, codes, decimal}
use Rattle.{war_types.specs.Warrior.WarriorParts, koth_match.specs.declared.bout.Bout.Bout}
use Rattle.koth_text.specs.{declared.columns.Alignment.Alignment, declared.tally.Tally.Tally, Columns.columns_text, Tally.{of_older, of_younger, points_of}}

-- the numbers at the right, and names after them at the left
abbrev pub rounds_sides : List Alignment
rounds_sides = Alignment.Right ∷ Alignment.Right ∷ Alignment.Right ∷ Alignment.Right ∷ Alignment.Left ∷ Alignment.Left ∷ []

abbrev pub rounds_heading : List (List ℕ)
rounds_heading = codes "won" ∷ codes "lost" ∷ codes "tied" ∷ codes "points" ∷ codes "warrior" ∷ codes "author" ∷ []

-- the cells of one of these names with these rounds
abbrev pub rounds_cells : List ℕ → List ℕ → Tally → List (List ℕ)
rounds_cells name author rounds = decimal rounds.won ∷ decimal rounds.lost ∷ decimal rounds.tied ∷ decimal (points_of rounds) ∷ name ∷ author ∷ []

-- the counts of a match, the older warrior first
abbrev pub bout_view : WarriorParts → WarriorParts → Bout → List ℕ
bout_view older younger bout =
    columns_text rounds_sides
    (rounds_heading ∷ rounds_cells older.name older.author (of_older bout) ∷ rounds_cells younger.name younger.author (of_younger bout) ∷ [])
