-- The top of a page: the hill's title, its king, and how to submit.
use Rattle.std.specs.Prelude.{ℕ, ◌==◌, nat_lt, if◌then◌else◌, List, [], ◌∷◌, ◌++◌, codes, decimal, Option, None, Some}
use Rattle.{koth_hill.specs.Table.RowParts, koth_text.specs.Escape.escaped}
use Rattle.koth_page.specs.{declared.parts.TheConstants.{BODY_START, EMPTY, HEAD}, Sign.{AddressParts, SignParts}}

-- the head of the page, and its title
unfoldable pub head_text : List ℕ → List ℕ
head_text title = HEAD.now ++ escaped title ++ BODY_START.now ++ escaped title ++ codes "</h1>\n"

-- the least of a number and the points in these rows
abbrev pub lowest_with : ℕ → List RowParts → ℕ
lowest_with lowest [] = lowest
lowest_with lowest (row ∷ rows) = lowest_with (if nat_lt row.score lowest then row.score else lowest) rows

-- what a number of points is called
abbrev pub points_word : ℕ → List ℕ
points_word n = if n == 1 then codes " point" else codes " points"

unfoldable pub points_text : ℕ → List ℕ
points_text n = decimal n ++ points_word n

unfoldable pub age_text : ℕ → List ℕ
age_text n = codes " &middot; age " ++ decimal n ++ codes "</span> <span>the lowest has "

-- the points and the age of the king, and the lowest points on the hill
unfoldable pub facts_text : RowParts → ℕ → List ℕ
facts_text king lowest = codes " <span>" ++ points_text king.score ++ age_text king.age ++ points_text lowest ++ codes "</span></p>\n"

-- the name of the king, and its author
unfoldable pub named_text : RowParts → List ℕ
named_text king = codes "<p class=\"king\">King: <b>" ++ escaped king.name ++ codes "</b> by " ++ escaped king.author

-- the king is the first of these rows; or there is none
unfoldable pub king_text : List RowParts → List ℕ
king_text [] = EMPTY.now
king_text (king ∷ rows) = named_text king ++ facts_text king (lowest_with king.score rows)

-- how to submit there: by the client, and by `nc`
unfoldable pub lines_text : AddressParts → List ℕ
lines_text a =
    codes "<pre>koth submit --to " ++ escaped a.joined ++ codes " mine.red</pre>\n<pre>(echo SUBMIT; sed 's/^\\./../; $a\\' mine.red; echo .; echo QUIT) | nc "
    ++ escaped a.apart ++ codes "</pre>\n"

unfoldable pub submit_text : Option AddressParts → List ℕ
submit_text None = []
submit_text (Some a) = lines_text a

unfoldable pub top_text : SignParts → List RowParts → List ℕ
top_text sign rows = head_text sign.title ++ king_text rows ++ submit_text sign.address
