-- The matches of warriors: who won, lost and tied how many rounds against whom.
use Rattle.std.specs.{Prelude.{ℕ, ◌==◌, min, max, if◌then◌else◌, List, ◌++◌, codes, decimal}, List.{enumerate_from, flat_map}}
use Rattle.koth_text.specs.{declared.tally.Tally.Tally, Escape.escaped}
use Rattle.koth_page.specs.{declared.links.Links.Links, declared.parts.TheConstants.{MATCHES_START, TABLE_END}, Cells.number_cell, Ranked.RankedParts, Shade.shade}

-- the heading of the column of a rank, which names the warrior
unfoldable pub rank_heading : ℕ → RankedParts → List ℕ
rank_heading rank row = codes "<th scope=\"col\" title=\"" ++ escaped row.name ++ codes "\">" ++ decimal rank ++ codes "</th>"

-- rank and name, and a column for each of these rows, by rank from 1 on
unfoldable pub matches_heading : List RankedParts → List ℕ
matches_heading rows =
    codes "<thead><tr><th scope=\"col\">rank</th><th scope=\"col\" class=\"name\">warrior</th>" ++ flat_map (λ (rank, row). rank_heading rank row) (enumerate_from 1 rows)
    ++ codes "</tr></thead>\n"

-- rounds won and lost
unfoldable pub rounds_text : Tally → List ℕ
rounds_text r = decimal r.won ++ codes "-" ++ decimal r.lost

-- who fought whom
unfoldable pub sides_text : RankedParts → RankedParts → List ℕ
sides_text row other = escaped row.name ++ codes " against " ++ escaped other.name

-- what begins a link to the first round of the match of two by their numbers
unfoldable pub link_start : ℕ → ℕ → List ℕ
link_start older younger = codes "<a href=\"/replay/" ++ decimal older ++ codes "/" ++ decimal younger ++ codes "/1\""

-- two numbers, each after a text
unfoldable pub pair_text : List ℕ → ℕ → List ℕ → ℕ → List ℕ
pair_text before one between other = before ++ decimal one ++ between ++ decimal other

-- what a link is called: the names of the two in the headings of their rows, and then its own text
unfoldable pub label_text : ℕ → ℕ → List ℕ
label_text one other =
    pair_text (codes " id=\"m") one (codes "-") other ++ pair_text (codes "\" aria-labelledby=\"w") one (codes " vs w") other
    ++ pair_text (codes " m") one (codes "-") other ++ codes "\">"

-- the rounds of two that fought, in a link to the first round if rounds are linked
unfoldable pub fought_text : Links → Tally → RankedParts → RankedParts → List ℕ
fought_text Links.None rounds row other = rounds_text rounds
fought_text Links.Rounds rounds row other =
    link_start (min row.number other.number) (max row.number other.number) ++ label_text row.number other.number ++ rounds_text rounds ++ codes "</a>"

-- what begins the cell of two that fought: its shade, and who they are
unfoldable pub cell_start : Tally → RankedParts → RankedParts → List ℕ
cell_start rounds row other = codes "<td class=\"" ++ shade rounds ++ codes "\" title=\"" ++ sides_text row other ++ codes "\">"

-- the cell of two that fought, from the side of the first
unfoldable pub fought_cell : Links → Tally → RankedParts → RankedParts → List ℕ
fought_cell links rounds row other = cell_start rounds row other ++ fought_text links rounds row other ++ codes "</td>"

-- what the row of one warrior says of another, and of itself
abbrev pub match_cell : (ℕ → ℕ → Tally) → Links → RankedParts → RankedParts → List ℕ
match_cell results links row other =
    if row.number == other.number then codes "<td class=\"self\">&middot;</td>"
    else fought_cell links (results row.number other.number) row other

-- the name of the warrior of a row, by which links name it too
unfoldable pub row_heading : RankedParts → List ℕ
row_heading row = codes "<th scope=\"row\" class=\"name\" id=\"w" ++ decimal row.number ++ codes "\">" ++ escaped row.name ++ codes "</th>"

-- the row of a warrior with its rank: a cell for each of these rows
unfoldable pub matches_row : (ℕ → ℕ → Tally) → Links → List RankedParts → ℕ → RankedParts → List ℕ
matches_row results links rows rank row =
    codes "<tr>" ++ number_cell rank ++ row_heading row ++ flat_map (match_cell results links row) rows
    ++ codes "</tr>\n"

-- the rows of these warriors, by rank from 1 on
abbrev pub matches_rows : (ℕ → ℕ → Tally) → Links → List RankedParts → List RankedParts → List ℕ
matches_rows results links rows shown =
    flat_map (λ (rank, row). matches_row results links rows rank row) (enumerate_from 1 shown)

-- the matches of these rows
unfoldable pub matches_text : (ℕ → ℕ → Tally) → Links → List RankedParts → List ℕ
matches_text results links rows =
    MATCHES_START.now ++ matches_heading rows ++ matches_rows results links rows rows ++ TABLE_END.now
