-- The tags and the attributes of a page are those of the same without names, for `hill_page` and `ranking_page`.
use Rattle.std.proofs.Common.{◌≡◌, ℕ, ◌+◌, Bool, true, false, cond, eqb, ltb, List, [], ◌∷◌, ◌++◌, codes, decimal, map, refl, sym, ap, ◌∙◌}
use Rattle.{std.specs.List.{enumerate_from, flat_map}, war_types.specs.declared.settings.RawSettings.RawSettings, koth_hill.specs.{Kept.{Kept, table_kept}, Table.RowParts}}
use Rattle.{koth_text.specs.{Characters.markup_of, Escape.escaped, declared.tally.Tally.Tally}, koth_text.proofs.Markup.{Alike, both, markup_of-escaped}, koth_views.specs.Tally.between}
use Rattle.koth_page.specs.{declared.links.Links.Links, declared.parts.TheConstants.{END, MATCHES_START, STANDING_START, TABLE_END}, Cells.{name_cell, name_heading, number_cell, number_cells}}
use Rattle.koth_page.specs.{Entered.entered_rows, Laws.{nameless, nameless_origin, nameless_row, nameless_rows}, Ranked.{OriginParts, RankedParts}, Matches.{cell_start, fought_cell, fought_text, match_cell, matches_heading, matches_row, matches_rows, matches_text, rank_heading, row_heading, sides_text}}
use Rattle.koth_page.specs.{Shade.shade, Sign.SignParts, Top.{facts_text, head_text, king_text, lowest_with, named_text, submit_text, top_text}}
use Rattle.koth_page.specs.{Page.{hill_page, hill_tables, page_of}, Ranking.{note_of, ranking_page}, Settings.{ranking_settings, settings_text}, Tables.tables_text}
use Rattle.koth_page.specs.Standing.{cells_for, headings_for, origin_cells, origin_headings, ranked_text, standing_heading, standing_row, standing_rows, standing_start, standing_text}
use Rattle.koth_page.proofs.Nameless.{between-nameless, entered_rows-nameless, table_kept-nameless, unnamed}

each : {X : Type 0} (f g : X → List ℕ) (h : X → X) → ((x : X) → Alike (f x) (g (h x))) → (xs : List X) → Alike (flat_map f xs) (flat_map g (map h xs))
each f g h same [] = refl
each f g h same (x ∷ xs) = both (f x) (g (h x)) (flat_map f xs) (flat_map g (map h xs)) (same x) (each f g h same xs)

each_ranked : (f g : ℕ × RankedParts → List ℕ) → ((n : ℕ) (row : RankedParts) → Alike (f (n, row)) (g (n, nameless_row row))) → (n : ℕ) (rows : List RankedParts)
    → Alike (flat_map f (enumerate_from n rows)) (flat_map g (enumerate_from n (nameless_rows rows)))
each_ranked f g same n [] = refl
each_ranked f g same n (row ∷ rows) =
    both (f (n, row)) (g (n, nameless_row row)) (flat_map f (enumerate_from (n + 1) rows)) (flat_map g (enumerate_from (n + 1) (nameless_rows rows)))
    (same n row) (each_ranked f g same (n + 1) rows)

-- ---- the parts of a page

-- two names have no markup, either of them
names : (name other : List ℕ) → Alike (escaped name) (escaped other)
names name other = markup_of-escaped name ∙ sym (markup_of-escaped other)

name_cells : (name other : List ℕ) → Alike (name_cell name) (name_cell other)
unfolding name_cell
name_cells name other =
    let start = codes "<td class=\"name\">" in
    let end = codes "</td>" in
    both (start ++ escaped name) (start ++ escaped other) end end (both start start (escaped name) (escaped other) refl (names name other)) refl

name_headings : (name other : List ℕ) → Alike (name_heading name) (name_heading other)
unfolding name_heading
name_headings name other =
    let start = codes "<th scope=\"row\" class=\"name\">" in
    let end = codes "</th>" in
    both (start ++ escaped name) (start ++ escaped other) end end (both start start (escaped name) (escaped other) refl (names name other)) refl

named-nameless : (king : RowParts) → Alike (named_text king) (named_text (unnamed king))
unfolding named_text
named-nameless king =
    let start = codes "<p class=\"king\">King: <b>" in
    let middle = codes "</b> by " in
    let none = escaped [] in
    both (start ++ escaped king.name ++ middle) (start ++ none ++ middle) (escaped king.author) none
    (both (start ++ escaped king.name) (start ++ none) middle middle (both start start (escaped king.name) none refl (names king.name [])) refl)
    (names king.author [])

lowest-nameless : (lowest : ℕ) (rows : List RowParts) → lowest_with lowest rows ≡ lowest_with lowest (map unnamed rows)
lowest-nameless lowest [] = refl
lowest-nameless lowest (row ∷ rows) = lowest-nameless (cond (ltb row.score lowest) row.score lowest) rows

facts-nameless : (king : RowParts) (lowest : ℕ) → facts_text king lowest ≡ facts_text (unnamed king) lowest
unfolding facts_text
facts-nameless king lowest = refl

king-nameless : (rows : List RowParts) → Alike (king_text rows) (king_text (map unnamed rows))
unfolding king_text
king-nameless [] = refl
king-nameless (king ∷ rows) =
    let other = unnamed king in
    let lowest = lowest_with king.score rows in
    let others = lowest_with king.score (map unnamed rows) in
    let facts : facts_text king lowest ≡ facts_text other others = facts-nameless king lowest ∙ ap (λ n. facts_text other n) (lowest-nameless king.score rows) in
    both (named_text king) (named_text other) (facts_text king lowest) (facts_text other others) (named-nameless king) (ap markup_of facts)

top-nameless : (sign : SignParts) (rows : List RowParts) → Alike (top_text sign rows) (top_text sign (map unnamed rows))
unfolding top_text
top-nameless sign rows =
    let head = head_text sign.title in
    let submit = submit_text sign.address in
    let others = king_text (map unnamed rows) in
    both (head ++ king_text rows) (head ++ others) submit submit (both head head (king_text rows) others refl (king-nameless rows)) refl

ranked-nameless : (rank : ℕ) (row : RankedParts) → Alike (ranked_text rank row) (ranked_text rank (nameless_row row))
unfolding ranked_text
ranked-nameless rank row =
    let start = codes "<tr>" ++ number_cell rank in
    let none = name_heading [] in
    both (start ++ name_heading row.name) (start ++ none) (name_cell row.author) (name_cell [])
    (both start start (name_heading row.name) none refl (name_headings row.name [])) (name_cells row.author [])

headings_for-nameless : (origin : OriginParts) → headings_for origin ≡ headings_for (nameless_origin origin)
headings_for-nameless (OriginParts.Entered age) = refl
headings_for-nameless (OriginParts.File file) = refl

origin_headings-nameless : (rows : List RankedParts) → origin_headings rows ≡ origin_headings (nameless_rows rows)
origin_headings-nameless [] = refl
origin_headings-nameless (row ∷ rows) = headings_for-nameless row.origin

cells_for-nameless : (number : ℕ) (origin : OriginParts) → Alike (cells_for number origin) (cells_for number (nameless_origin origin))
cells_for-nameless number (OriginParts.Entered age) = refl
cells_for-nameless number (OriginParts.File file) = name_cells file []

standing_heading-nameless : (rows : List RankedParts) → standing_heading rows ≡ standing_heading (nameless_rows rows)
unfolding standing_heading
standing_heading-nameless rows = ap (λ (hs : List ℕ). standing_start ++ hs ++ codes "</tr></thead>\n") (origin_headings-nameless rows)

standing_row-nameless : (rank : ℕ) (row : RankedParts) → Alike (standing_row rank row) (standing_row rank (nameless_row row))
unfolding standing_row
standing_row-nameless rank row =
    let numbers = number_cells (row.points ∷ row.rounds.won ∷ row.rounds.lost ∷ row.rounds.tied ∷ []) in
    let end = codes "</tr>\n" in
    let none = nameless_row row in
    let named = ranked_text rank row in
    let others = ranked_text rank none in
    both (named ++ numbers ++ origin_cells row) (others ++ numbers ++ origin_cells none) end end
    (both (named ++ numbers) (others ++ numbers) (origin_cells row) (origin_cells none)
    (both named others numbers numbers (ranked-nameless rank row) refl) (cells_for-nameless row.number row.origin)) refl

standing-nameless : (rows : List RankedParts) → Alike (standing_text rows) (standing_text (nameless_rows rows))
unfolding standing_text
standing-nameless rows =
    let f = λ (p : ℕ × RankedParts). standing_row p.0 p.1 in
    let others = nameless_rows rows in
    let start = STANDING_START.now ++ standing_heading rows in
    let none = STANDING_START.now ++ standing_heading others in
    both (start ++ standing_rows rows) (none ++ standing_rows others) TABLE_END.now TABLE_END.now
    (both start none (standing_rows rows) (standing_rows others)
    (ap (λ (h : List ℕ). markup_of (STANDING_START.now ++ h)) (standing_heading-nameless rows)) (each_ranked f f standing_row-nameless 1 rows)) refl

rank_heading-nameless : (rank : ℕ) (row : RankedParts) → Alike (rank_heading rank row) (rank_heading rank (nameless_row row))
unfolding rank_heading
rank_heading-nameless rank row =
    let start = codes "<th scope=\"col\" title=\"" in
    let middle = codes "\">" in
    let end = codes "</th>" in
    let none = escaped [] in
    both (start ++ escaped row.name ++ middle ++ decimal rank) (start ++ none ++ middle ++ decimal rank) end end
    (both (start ++ escaped row.name ++ middle) (start ++ none ++ middle) (decimal rank) (decimal rank)
    (both (start ++ escaped row.name) (start ++ none) middle middle (both start start (escaped row.name) none refl (names row.name [])) refl) refl)
    refl

matches_heading-nameless : (rows : List RankedParts) → Alike (matches_heading rows) (matches_heading (nameless_rows rows))
unfolding matches_heading
matches_heading-nameless rows =
    let f = λ (p : ℕ × RankedParts). rank_heading p.0 p.1 in
    let start = codes "<thead><tr><th scope=\"col\">rank</th><th scope=\"col\" class=\"name\">warrior</th>" in
    let end = codes "</tr></thead>\n" in
    let ranks = flat_map f (enumerate_from 1 rows) in
    let unnamed = flat_map f (enumerate_from 1 (nameless_rows rows)) in
    both (start ++ ranks) (start ++ unnamed) end end (both start start ranks unnamed refl (each_ranked f f rank_heading-nameless 1 rows)) refl

sides-nameless : (row other : RankedParts) → Alike (sides_text row other) (sides_text (nameless_row row) (nameless_row other))
unfolding sides_text
sides-nameless row other =
    let middle = codes " against " in
    let none = escaped [] in
    both (escaped row.name ++ middle) (none ++ middle) (escaped other.name) none (both (escaped row.name) none middle middle (names row.name []) refl) (names other.name [])

start-nameless : (rounds : Tally) (row other : RankedParts) → Alike (cell_start rounds row other) (cell_start rounds (nameless_row row) (nameless_row other))
unfolding cell_start
start-nameless rounds row other =
    let start = codes "<td class=\"" ++ shade rounds ++ codes "\" title=\"" in
    let named = sides_text row other in
    let none = sides_text (nameless_row row) (nameless_row other) in
    let end = codes "\">" in
    both (start ++ named) (start ++ none) end end (both start start named none refl (sides-nameless row other)) refl

-- a link asks for no name
fought-nameless : (links : Links) (rounds : Tally) (row other : RankedParts) → fought_text links rounds row other ≡ fought_text links rounds (nameless_row row) (nameless_row other)
unfolding fought_text
fought-nameless Links.None rounds row other = refl
fought-nameless Links.Rounds rounds row other = refl

fought_cell-nameless : (links : Links) (rounds : Tally) (row other : RankedParts)
    → Alike (fought_cell links rounds row other) (fought_cell links rounds (nameless_row row) (nameless_row other))
unfolding fought_cell
fought_cell-nameless links rounds row other =
    let start = cell_start rounds row other in
    let none = cell_start rounds (nameless_row row) (nameless_row other) in
    let last = codes "</td>" in
    let fought = fought_text links rounds row other in
    let others = fought_text links rounds (nameless_row row) (nameless_row other) in
    both (start ++ fought) (none ++ others) last last
    (both start none fought others (start-nameless rounds row other) (ap markup_of (fought-nameless links rounds row other))) refl

either : (b : Bool) (own some others : List ℕ) → Alike some others → Alike (cond b own some) (cond b own others)
either true own some others same = refl
either false own some others same = same

-- the same results
abbrev AreSame : (ℕ → ℕ → Tally) → (ℕ → ℕ → Tally) → Type 0
AreSame some others = (one other : ℕ) → some one other ≡ others one other

match_cell-nameless : (s t : ℕ → ℕ → Tally) → AreSame s t → (links : Links) (row other : RankedParts)
    → Alike (match_cell s links row other) (match_cell t links (nameless_row row) (nameless_row other))
match_cell-nameless s t same links row other =
    let rounds = s row.number other.number in
    let others = t row.number other.number in
    let a = nameless_row row in
    let b = nameless_row other in
    either (eqb row.number other.number) (codes "<td class=\"self\">&middot;</td>") (fought_cell links rounds row other) (fought_cell links others a b)
    (fought_cell-nameless links rounds row other ∙ ap (λ (r : Tally). markup_of (fought_cell links r a b)) (same row.number other.number))

row_heading-nameless : (row : RankedParts) → Alike (row_heading row) (row_heading (nameless_row row))
unfolding row_heading
row_heading-nameless row =
    let start = codes "<th scope=\"row\" class=\"name\" id=\"w" ++ decimal row.number ++ codes "\">" in
    let end = codes "</th>" in
    let none = escaped [] in
    both (start ++ escaped row.name) (start ++ none) end end (both start start (escaped row.name) none refl (names row.name [])) refl

matches_row-nameless : (s t : ℕ → ℕ → Tally) → AreSame s t → (links : Links) (rows : List RankedParts) (rank : ℕ) (row : RankedParts)
    → Alike (matches_row s links rows rank row) (matches_row t links (nameless_rows rows) rank (nameless_row row))
unfolding matches_row
matches_row-nameless s t same links rows rank row =
    let none = nameless_row row in
    let start = codes "<tr>" ++ number_cell rank in
    let end = codes "</tr>\n" in
    let cells = flat_map (match_cell s links row) rows in
    let others = flat_map (match_cell t links none) (nameless_rows rows) in
    let name = row_heading row in
    let no_name = row_heading none in
    let named : Alike (start ++ name) (start ++ no_name) = both start start name no_name refl (row_heading-nameless row) in
    both (start ++ name ++ cells) (start ++ no_name ++ others) end end
    (both (start ++ name) (start ++ no_name) cells others named
    (each (match_cell s links row) (match_cell t links none) nameless_row (match_cell-nameless s t same links row) rows))
    refl

matches-nameless : (s t : ℕ → ℕ → Tally) → AreSame s t → (links : Links) (rows : List RankedParts)
    → Alike (matches_text s links rows) (matches_text t links (nameless_rows rows))
unfolding matches_text
matches-nameless s t same links rows =
    let none = nameless_rows rows in
    let start = MATCHES_START.now ++ matches_heading rows in
    let others = MATCHES_START.now ++ matches_heading none in
    both (start ++ matches_rows s links rows rows) (others ++ matches_rows t links none none) TABLE_END.now TABLE_END.now
    (both start others (matches_rows s links rows rows) (matches_rows t links none none)
    (both MATCHES_START.now MATCHES_START.now (matches_heading rows) (matches_heading none) refl (matches_heading-nameless rows))
    (each_ranked (λ (p : ℕ × RankedParts). matches_row s links rows p.0 p.1) (λ (p : ℕ × RankedParts). matches_row t links none p.0 p.1) (matches_row-nameless s t same links rows) 1 rows))
    refl

tables-nameless : (s t : ℕ → ℕ → Tally) → AreSame s t → (links : Links) (rows : List RankedParts) → Alike (tables_text s links rows) (tables_text t links (nameless_rows rows))
tables-nameless s t same links [] = refl
tables-nameless s t same links (row ∷ rows) =
    let all = row ∷ rows in
    let none = nameless_rows all in
    both (standing_text all) (standing_text none) (matches_text s links all) (matches_text t links none) (standing-nameless all) (matches-nameless s t same links all)

hill_tables-nameless : (k : Kept) (links : Links) (rows : List RowParts) → Alike (hill_tables k links rows) (hill_tables (nameless k) links (map unnamed rows))
hill_tables-nameless k links rows =
    let other = nameless k in
    tables-nameless (between k) (between other) (between-nameless k) links (entered_rows k rows)
    ∙ ap (λ (all : List RankedParts). markup_of (tables_text (between other) links all)) (entered_rows-nameless k rows)

page-nameless : (k : Kept) (sign : SignParts) (links : Links) (rows : List RowParts)
    → Alike (page_of k sign links rows) (page_of (nameless k) sign links (map unnamed rows))
unfolding page_of
page-nameless k sign links rows =
    let others = map unnamed rows in
    let settings = settings_text k.settings in
    let top = top_text sign rows in
    let none = top_text sign others in
    let tables = hill_tables k links rows in
    let nameless_tables = hill_tables (nameless k) links others in
    both (top ++ settings ++ tables) (none ++ settings ++ nameless_tables) END.now END.now
    (both (top ++ settings) (none ++ settings) tables nameless_tables (both top none settings settings (top-nameless sign rows) refl) (hill_tables-nameless k links rows)) refl

pub markup : (k : Kept) (sign : SignParts) (links : Links) → markup_of (hill_page k sign links) ≡ markup_of (hill_page (nameless k) sign links)
markup k sign links =
    page-nameless k sign links (table_kept k) ∙ ap (λ (rows : List RowParts). markup_of (page_of (nameless k) sign links rows)) (sym (table_kept-nameless k))

note-nameless : (rows : List RankedParts) → note_of rows ≡ note_of (nameless_rows rows)
note-nameless [] = refl
note-nameless (row ∷ rows) = refl

pub ranking_markup : (title : List ℕ) (s : RawSettings) (both_orders : Bool) (results : ℕ → ℕ → Tally) (rows : List RankedParts)
    → markup_of (ranking_page title s both_orders results rows) ≡ markup_of (ranking_page title s both_orders results (nameless_rows rows))
unfolding ranking_page
ranking_markup title s both_orders results rows =
    let others = nameless_rows rows in
    let head = head_text title in
    let settings = ranking_settings s both_orders in
    let tables = tables_text results Links.None rows in
    let none = tables_text results Links.None others in
    let top = head ++ note_of rows ++ settings in
    let other = head ++ note_of others ++ settings in
    both (top ++ tables) (other ++ none) END.now END.now
    (both top other tables none (ap (λ (note : List ℕ). markup_of (head ++ note ++ settings)) (note-nameless rows))
    (tables-nameless results results (λ a b. refl) Links.None rows)) refl
