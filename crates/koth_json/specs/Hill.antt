-- The lines of `show`.
use Rattle.std.specs.{Prelude.{ℕ, Bool, if◌then◌else◌, List, [], ◌∷◌, ◌++◌, length, codes}, List.{enumerate_from, flat_map, zip}}
use Rattle.{war_types.specs.declared.settings.RawSettings.RawSettings, koth_match.specs.declared.bout.Bout.Bout, koth_text.specs.Tally.of_younger, koth_views.specs.Tally.against_all}
use Rattle.koth_hill.specs.{Hill.Member, Kept.{Kept, table_kept}, Table.RowParts}
use Rattle.koth_json.specs.{declared.key.Key.Key, Contest.tally_fields, Objects.{Field, Value, object_line, type_field}}

-- the sizes of a match, and its cycles
abbrev pub size_fields : RawSettings → List Field
size_fields s =
    (Key.Core, Value.number s.core)
    ∷ (Key.Cycles, Value.number s.cycles)
    ∷ (Key.Processes, Value.number s.processes)
    ∷ (Key.Length, Value.number s.length)
    ∷ (Key.Distance, Value.number s.distance)
    ∷ []

-- its rounds, the capacity of the hill, and how far operands reach
abbrev pub bound_fields : RawSettings → List Field
bound_fields s =
    (Key.Rounds, Value.number s.rounds)
    ∷ (Key.Capacity, Value.number s.capacity)
    ∷ (Key.ReadLimit, Value.number s.read_limit)
    ∷ (Key.WriteLimit, Value.number s.write_limit)
    ∷ []

-- a hill: how many warriors stand on it, and its settings without the seed
abbrev pub hill_line : ℕ → RawSettings → List ℕ
hill_line warriors given = object_line (type_field (codes "hill")) ((Key.Warriors, Value.number warriors) ∷ size_fields given ++ bound_fields given)

-- the numbers of a warrior on a hill
abbrev pub standing_fields : RowParts → List Field
standing_fields row = (Key.Entry, Value.number row.entry) ∷ (Key.Points, Value.number row.score) ∷ (Key.Age, Value.number row.age) ∷ []

-- a warrior on this hill, with its rank, and the rounds that it won, lost and tied against all others
abbrev pub row_line : Kept → ℕ → RowParts → List ℕ
row_line k rank row =
    object_line (type_field (codes "warrior")) (
    (Key.Rank, Value.number rank) ∷ standing_fields row ++ (Key.Name, Value.text row.name) ∷ (Key.Author, Value.text row.author)
    ∷ tally_fields (against_all k row.entry))

-- the warriors in these rows, which stand by rank from 1 on
abbrev pub row_lines : Kept → List RowParts → List ℕ
row_lines k rows = flat_map (λ (rank, row). row_line k rank row) (enumerate_from 1 rows)

-- the match of an entry with an older warrior, from the entry's side
abbrev pub bout_line : ℕ → Member → Bout → List ℕ
bout_line entry older bout =
    object_line (type_field (codes "match")) (
    (Key.Entry, Value.number entry)
    ∷ (Key.Opponent, Value.number older.entry)
    ∷ (Key.OpponentName, Value.text older.warrior.name)
    ∷ (Key.OpponentAuthor, Value.text older.warrior.author)
    ∷ tally_fields (of_younger bout))

-- the matches of an entry with these, by their results
abbrev pub bout_lines : ℕ → List Member → List Bout → List ℕ
bout_lines entry members bouts = flat_map (λ (m, b). bout_line entry m b) (zip members bouts)

-- the matches on a hill: those of each warrior with the older ones
abbrev pub kept_lines : Kept → List ℕ
kept_lines k = flat_map (λ (m, bouts). bout_lines m.entry k.members bouts) (zip k.members k.results)

-- the same, if they are asked for
abbrev pub matches_text : Bool → Kept → List ℕ
matches_text asked k = if asked then kept_lines k else []

-- a hill with these settings: its line, those of its warriors by rank, and of their matches if they are asked for
abbrev pub hill_text : RawSettings → Bool → Kept → List ℕ
hill_text given matches k = hill_line (length k.members) given ++ (row_lines k (table_kept k) ++ matches_text matches k)
