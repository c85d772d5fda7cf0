-- Who won how many rounds against whom on a hill, in lines.
use Rattle.std.specs.{Prelude.{ℕ, ◌-◌, ◌==◌, max, nat_lt, if◌then◌else◌, List, ◌++◌, length, map, replicate, codes, decimal}, List.{enumerate_from, flat_map, range_with_len}}
use Rattle.koth_hill.specs.{Kept.{Kept, entries_of, or_no_rounds, result_of, table_kept}, Table.RowParts}

-- the entries of these rows
abbrev pub entries_shown : List RowParts → List ℕ
entries_shown rows = map (λ r. r.entry) rows

-- a text at the right of `places` places
abbrev pub right : ℕ → List ℕ → List ℕ
right places text = replicate (places - length text) 32 ++ text

-- the places of a cell: as many as the digits of the number of rounds, and 2 at least
abbrev pub places_for : ℕ → ℕ
places_for rounds = max (length (decimal rounds)) 2

-- a cell: a blank and a text at the right of its places
abbrev pub cell : ℕ → List ℕ → List ℕ
cell places text = codes " " ++ right places text

-- the rounds that one entry won against another, by the result that is kept of the two: the earlier entry is the older
-- warrior
abbrev pub rounds_won : Kept → ℕ → ℕ → ℕ
rounds_won k one other =
    if nat_lt one other then (or_no_rounds (result_of (entries_of k.members) k.results one other)).older_wins
    else (or_no_rounds (result_of (entries_of k.members) k.results other one)).younger_wins

-- what the line of one entry says of another, and of itself
abbrev pub told_of : Kept → ℕ → ℕ → List ℕ
told_of k one other = if one == other then codes "-" else decimal (rounds_won k one other)

-- the first line: a cell for each rank from 1 on
abbrev pub ranks_line : ℕ → ℕ → List ℕ
ranks_line places count = codes "  " ++ flat_map (λ rank. cell places (decimal rank)) (range_with_len 1 count) ++ codes "\n"

-- the line of an entry with its rank: a cell for each of these entries
abbrev pub entry_line : Kept → ℕ → List ℕ → ℕ → ℕ → List ℕ
entry_line k places entries rank one = right 2 (decimal rank) ++ flat_map (λ other. cell places (told_of k one other)) entries ++ codes "\n"

-- the lines of these entries, which stand by rank from 1 on
abbrev pub entry_lines : Kept → ℕ → List ℕ → List ℕ
entry_lines k places entries = flat_map (λ (rank, one). entry_line k places entries rank one) (enumerate_from 1 entries)

-- the first line and those of these entries; of none the first line alone
abbrev pub matches_among : Kept → ℕ → List ℕ → List ℕ
matches_among k places entries = ranks_line places (length entries) ++ entry_lines k places entries

-- who won how many rounds against whom, by rank in the table
abbrev pub matches_text : Kept → List ℕ
matches_text k = matches_among k (places_for k.settings.rounds) (entries_shown (table_kept k))
