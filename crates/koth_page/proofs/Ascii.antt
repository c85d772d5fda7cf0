-- Every byte of a page is of ASCII, for `hill_page` and `ranking_page`.
use Rattle.{std.proofs.Common.{◌≡◌, ℕ, Bool, true, cond, eqb, ltb, List, [], ◌∷◌, ◌++◌, codes, decimal, Option, None, Some, refl}, std.specs.List.{enumerate_from, flat_map, list_all}, std.proofs.lemmas.Bool.cond_both}
use Rattle.{std.proofs.lemmas.List.Folds.list_all-append, war_types.specs.declared.settings.RawSettings.RawSettings, koth_hill.specs.{Kept.{Kept, table_kept}, Table.RowParts}}
use Rattle.{koth_text.specs.{Characters.is_page_byte, declared.tally.Tally.Tally}, koth_text.proofs.Ascii.{Ascii, ascii_decimal, ascii_escaped, both, each}}
use Rattle.{koth_views.specs.Tally.between, koth_page.specs.{declared.links.Links.Links, declared.parts.TheConstants.END, Cells.{name_cell, name_heading, number_cell, number_cells}}}
use Rattle.koth_page.specs.Matches.{cell_start, fought_cell, fought_text, label_text, link_start, match_cell, matches_heading, matches_row, matches_rows, matches_text, pair_text, rank_heading, rounds_text, row_heading, sides_text}
use Rattle.koth_page.specs.{Sign.AddressParts, Top.{age_text, facts_text, head_text, king_text, lines_text, lowest_with, named_text, points_text, points_word, submit_text, top_text}}
use Rattle.koth_page.specs.{Entered.entered_rows, Page.{hill_page, hill_tables, page_of}, Ranked.{OriginParts, RankedParts}, Ranking.{note_of, ranking_page}, Shade.{all_rounds, quarter, shade}, Sign.SignParts, Tables.tables_text}
use Rattle.koth_page.specs.Settings.{hill_line, limit_text, limits_text, machine_text, orders_text, ranking_line, ranking_settings, rules_text, setting_text, settings_text}
use Rattle.koth_page.specs.Standing.{cells_for, headings_for, origin_cells, origin_headings, ranked_text, standing_heading, standing_row, standing_rows, standing_start, standing_text}

ascii_number_cell : (n : ℕ) → Ascii (number_cell n)
unfolding number_cell
ascii_number_cell n = simp (list_all-append, ascii_decimal)

ascii_name_cell : (name : List ℕ) → Ascii (name_cell name)
unfolding name_cell
ascii_name_cell name = simp (list_all-append, ascii_escaped)

ascii_name_heading : (name : List ℕ) → Ascii (name_heading name)
unfolding name_heading
ascii_name_heading name = simp (list_all-append, ascii_escaped)

ascii_limit : (name : List ℕ) (n core : ℕ) → Ascii name → Ascii (limit_text name n core)
unfolding limit_text setting_text
ascii_limit name n core is =
    cond_both (eqb n core) [] (name ++ decimal n) Ascii (λ _. refl) (λ _. both is_page_byte name (decimal n) is (ascii_decimal n))

ascii_limits : (s : RawSettings) → Ascii (limits_text s)
unfolding limits_text
ascii_limits s =
    let read = codes ", read limit " in
    let write = codes ", write limit " in
    both is_page_byte (limit_text read s.read_limit s.core) (limit_text write s.write_limit s.core) (ascii_limit read s.read_limit s.core refl)
    (ascii_limit write s.write_limit s.core refl)

ascii_settings : (s : RawSettings) → Ascii (settings_text s)
unfolding hill_line machine_text rules_text setting_text settings_text
ascii_settings s = simp (list_all-append, ascii_decimal, ascii_limits)

ascii_orders : (both_orders : Bool) → Ascii (orders_text both_orders)
ascii_orders both_orders = cond_both both_orders (codes " in both orders") [] Ascii (λ _. refl) (λ _. refl)

ascii_ranking_settings : (s : RawSettings) (both_orders : Bool) → Ascii (ranking_settings s both_orders)
unfolding machine_text ranking_line ranking_settings rules_text setting_text
ascii_ranking_settings s both_orders = simp (list_all-append, ascii_decimal, ascii_limits, ascii_orders)

-- ---- the top

ascii_points : (n : ℕ) → Ascii (points_word n)
ascii_points n = cond_both (eqb n 1) (codes " point") (codes " points") Ascii (λ _. refl) (λ _. refl)

ascii_head : (title : List ℕ) → Ascii (head_text title)
unfolding head_text
ascii_head title = simp (list_all-append, ascii_escaped)

ascii_facts : (king : RowParts) (lowest : ℕ) → Ascii (facts_text king lowest)
unfolding age_text facts_text points_text
ascii_facts king lowest = simp (list_all-append, ascii_decimal, ascii_points)

ascii_named : (king : RowParts) → Ascii (named_text king)
unfolding named_text
ascii_named king = simp (list_all-append, ascii_escaped)

ascii_king : (rows : List RowParts) → Ascii (king_text rows)
unfolding king_text
ascii_king [] = refl
ascii_king (king ∷ rows) =
    let lowest = lowest_with king.score rows in
    both is_page_byte (named_text king) (facts_text king lowest) (ascii_named king) (ascii_facts king lowest)

ascii_submit : (address : Option AddressParts) → Ascii (submit_text address)
unfolding lines_text submit_text
ascii_submit None = refl
ascii_submit (Some a) = simp (list_all-append, ascii_escaped)

ascii_top : (sign : SignParts) (rows : List RowParts) → Ascii (top_text sign rows)
unfolding top_text
ascii_top sign rows =
    both is_page_byte (head_text sign.title ++ king_text rows) (submit_text sign.address)
    (both is_page_byte (head_text sign.title) (king_text rows) (ascii_head sign.title) (ascii_king rows)) (ascii_submit sign.address)

-- ---- the tables

ascii_headings_for : (origin : OriginParts) → Ascii (headings_for origin)
ascii_headings_for (OriginParts.Entered age) = refl
ascii_headings_for (OriginParts.File file) = refl

ascii_origin_headings : (rows : List RankedParts) → Ascii (origin_headings rows)
ascii_origin_headings [] = refl
ascii_origin_headings (row ∷ rows) = ascii_headings_for row.origin

ascii_number_cells : (ns : List ℕ) → Ascii (number_cells ns)
ascii_number_cells ns = each is_page_byte number_cell ascii_number_cell ns

ascii_cells_for : (number : ℕ) (origin : OriginParts) → Ascii (cells_for number origin)
ascii_cells_for number (OriginParts.Entered age) = ascii_number_cells (age ∷ number ∷ [])
ascii_cells_for number (OriginParts.File file) = ascii_name_cell file

ascii_origin : (row : RankedParts) → Ascii (origin_cells row)
ascii_origin row = ascii_cells_for row.number row.origin

ascii_standing_heading : (rows : List RankedParts) → Ascii (standing_heading rows)
unfolding standing_heading standing_start
ascii_standing_heading rows = simp (list_all-append, ascii_origin_headings)

ascii_standing_row : (rank : ℕ) (row : RankedParts) → Ascii (standing_row rank row)
unfolding ranked_text standing_row
ascii_standing_row rank row = simp (list_all-append, ascii_number_cell, ascii_name_cell, ascii_name_heading, ascii_origin)

ascii_standing : (rows : List RankedParts) → Ascii (standing_text rows)
unfolding standing_text
ascii_standing rows =
    let f = λ (p : ℕ × RankedParts). standing_row p.0 p.1 in
    let shown : Ascii (standing_rows rows) = each is_page_byte f (λ p. ascii_standing_row p.0 p.1) (enumerate_from 1 rows) in
    simp (list_all-append, ascii_standing_heading, shown)

ascii_rank_heading : (rank : ℕ) (row : RankedParts) → Ascii (rank_heading rank row)
unfolding rank_heading
ascii_rank_heading rank row = simp (list_all-append, ascii_decimal, ascii_escaped)

ascii_matches_heading : (rows : List RankedParts) → Ascii (matches_heading rows)
unfolding matches_heading
ascii_matches_heading rows =
    let f = λ (p : ℕ × RankedParts). rank_heading p.0 p.1 in
    let ranks : Ascii (flat_map f (enumerate_from 1 rows)) = each is_page_byte f (λ p. ascii_rank_heading p.0 p.1) (enumerate_from 1 rows) in
    simp (list_all-append, ranks)

-- a letter and the quarter of a lead
ascii_lead : (letter : List ℕ) (n : ℕ) → Ascii letter → Ascii (letter ++ decimal n)
ascii_lead letter n is = both is_page_byte letter (decimal n) is (ascii_decimal n)

ascii_shade : (r : Tally) → Ascii (shade r)
unfolding shade
ascii_shade r =
    let won = codes "w" ++ decimal (quarter r.won r.lost (all_rounds r)) in
    let lost = codes "l" ++ decimal (quarter r.lost r.won (all_rounds r)) in
    cond_both (ltb r.lost r.won) won (cond (ltb r.won r.lost) lost (codes "e")) Ascii (λ _. ascii_lead (codes "w") (quarter r.won r.lost (all_rounds r)) refl)
    (λ _. cond_both (ltb r.won r.lost) lost (codes "e") Ascii (λ _. ascii_lead (codes "l") (quarter r.lost r.won (all_rounds r)) refl) (λ _. refl))

ascii_fought_cell : (links : Links) (rounds : Tally) (row other : RankedParts) → Ascii (fought_cell links rounds row other)
unfolding cell_start fought_cell fought_text label_text link_start pair_text rounds_text sides_text
ascii_fought_cell Links.None rounds row other = simp (list_all-append, ascii_decimal, ascii_escaped, ascii_shade)
ascii_fought_cell Links.Rounds rounds row other = simp (list_all-append, ascii_decimal, ascii_escaped, ascii_shade)

ascii_match_cell : (results : ℕ → ℕ → Tally) (links : Links) (row other : RankedParts) → Ascii (match_cell results links row other)
ascii_match_cell results links row other =
    let rounds = results row.number other.number in
    cond_both (eqb row.number other.number) (codes "<td class=\"self\">&middot;</td>") (fought_cell links rounds row other) Ascii (λ _. refl) (λ _. ascii_fought_cell links rounds row other)

ascii_row_heading : (row : RankedParts) → Ascii (row_heading row)
unfolding row_heading
ascii_row_heading row = simp (list_all-append, ascii_decimal, ascii_escaped)

ascii_matches_row : (results : ℕ → ℕ → Tally) (links : Links) (rows : List RankedParts) (rank : ℕ) (row : RankedParts) → Ascii (matches_row results links rows rank row)
unfolding matches_row
ascii_matches_row results links rows rank row =
    let cells : Ascii (flat_map (match_cell results links row) rows) = each is_page_byte (match_cell results links row) (ascii_match_cell results links row) rows in
    simp (list_all-append, ascii_number_cell, ascii_row_heading, cells)

ascii_matches : (results : ℕ → ℕ → Tally) (links : Links) (rows : List RankedParts) → Ascii (matches_text results links rows)
unfolding matches_text
ascii_matches results links rows =
    let f = λ (p : ℕ × RankedParts). matches_row results links rows p.0 p.1 in
    let shown : Ascii (matches_rows results links rows rows) = each is_page_byte f (λ p. ascii_matches_row results links rows p.0 p.1) (enumerate_from 1 rows) in
    simp (list_all-append, ascii_matches_heading, shown)

ascii_tables : (results : ℕ → ℕ → Tally) (links : Links) (rows : List RankedParts) → Ascii (tables_text results links rows)
ascii_tables results links [] = refl
ascii_tables results links (row ∷ rows) =
    let all = row ∷ rows in
    both is_page_byte (standing_text all) (matches_text results links all) (ascii_standing all) (ascii_matches results links all)

pub ascii : (k : Kept) (sign : SignParts) (links : Links) → list_all is_page_byte (hill_page k sign links) ≡ true
unfolding page_of
ascii k sign links =
    let top = top_text sign (table_kept k) in
    let start = top ++ settings_text k.settings in
    let tables = hill_tables k links (table_kept k) in
    both is_page_byte (start ++ tables) END.now
    (both is_page_byte start tables (both is_page_byte top (settings_text k.settings) (ascii_top sign (table_kept k)) (ascii_settings k.settings))
    (ascii_tables (between k) links (entered_rows k (table_kept k)))) refl

ascii_note : (rows : List RankedParts) → Ascii (note_of rows)
ascii_note [] = refl
ascii_note (row ∷ rows) = refl

pub ascii_ranking : (title : List ℕ) (s : RawSettings) (both_orders : Bool) (results : ℕ → ℕ → Tally) (rows : List RankedParts)
    → list_all is_page_byte (ranking_page title s both_orders results rows) ≡ true
unfolding ranking_page
ascii_ranking title s both_orders results rows =
    let top = head_text title ++ note_of rows in
    let start = top ++ ranking_settings s both_orders in
    let tables = tables_text results Links.None rows in
    both is_page_byte (start ++ tables) END.now
    (both is_page_byte start tables
    (both is_page_byte top (ranking_settings s both_orders) (both is_page_byte (head_text title) (note_of rows) (ascii_head title) (ascii_note rows)) (ascii_ranking_settings s both_orders))
    (ascii_tables results Links.None rows)) refl
