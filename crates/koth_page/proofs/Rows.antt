-- Parts of the pages of small hills, computed.
use Rattle.{std.proofs.Common.{◌≡◌, ℕ, true, List, [], ◌∷◌, ◌++◌, codes, Some, None, refl}, std.specs.{Prelude.{nat_lt, if◌then◌else◌}, Char.encode_utf8, Fmt.digits, Str.{chars, is_utf8}}}
use Rattle.{std.specs.Str.Lossy.{utf8_error_len, utf8_lossy, utf8_valid_len}, war_types.specs.{declared.settings.RawSettings.RawSettings, Warrior.warrior_parts}}
use Rattle.{koth_match.specs.declared.bout.Bout.Bout, koth_hill.specs.{Hill.{Member, member_of}, Kept.{Kept, kept_of, table_kept}}, koth_text.specs.{Escape.escaped, declared.tally.Tally.Tally}, koth_views.specs.Tally.between}
use Rattle.koth_page.specs.{declared.parts.TheConstants.{BODY_START, EMPTY, END, HEAD, MATCHES_START, MEANINGS, RANKING_RULES, RULES, STANDING_START, TABLE_END}, Cells.{name_cell, name_heading, number_cell}}
use Rattle.koth_page.specs.{Matches.{cell_start, fought_cell, fought_text, label_text, link_start, matches_heading, matches_row, matches_text, pair_text, rank_heading, rounds_text, row_heading, sides_text}, Page.{hill_page, page_of}}
use Rattle.koth_page.specs.{Entered.entered_rows, Ranked.{OriginParts, RankedParts}, Ranking.ranking_page, Settings.{hill_line, limit_text, limits_text, machine_text, ranking_line, ranking_settings, rules_text, setting_text, settings_text}, Shade.shade, Sign.{AddressParts, SignParts}, declared.links.Links.Links}
use Rattle.koth_page.specs.{Standing.{ranked_text, standing_heading, standing_row, standing_start, standing_text}, Top.{age_text, facts_text, head_text, king_text, lines_text, named_text, points_text, submit_text, top_text}}

abbrev settings : RawSettings
settings =
    record { core = 8000; cycles = 80000; processes = 8000; length = 100; distance = 100; rounds = 10; seed = 1; capacity = 20; read_limit = 8000; write_limit = 4000 }

abbrev entered : ℕ → ℕ → List ℕ → Member
entered entry age name = member_of entry age (warrior_parts [] 0 name (codes "A. & B."))

abbrev rounds : ℕ → ℕ → ℕ → Bout
rounds older younger ties = record { older_wins = older; younger_wins = younger; ties = ties }

abbrev none : Kept
none = kept_of settings 0 [] []

-- the second entered before the first by rank
abbrev two : Kept
two = kept_of settings 3 (entered 1 1 (codes "Imp") ∷ entered 3 0 (codes "<Scanner>") ∷ []) ([] ∷ (rounds 1 8 1 ∷ []) ∷ [])

abbrev without_address : SignParts
without_address = record { title = codes "A <hill>"; address = None }

abbrev address : AddressParts
address = record { joined = codes "a.example:80"; apart = codes "a.example 80" }

page_of_none : hill_page none without_address Links.None
    ≡ HEAD.now
    ++ codes "A &lt;hill&gt;"
    ++ BODY_START.now
    ++ codes "A &lt;hill&gt;</h1>\n"
    ++ EMPTY.now
    ++ codes "<details>\n<summary>Settings: core 8000, cycles 80000, processes 8000, length 100, distance 100, rounds 10, places 20, write limit 4000"
    ++ RULES.now
    ++ MEANINGS.now
    ++ END.now
unfolding chars digits encode_utf8 escaped head_text hill_line is_utf8 king_text limit_text limits_text machine_text page_of rules_text setting_text settings_text submit_text top_text utf8_error_len utf8_lossy utf8_valid_len
page_of_none = refl

-- the first by rank is the king, the lowest is the least of all, and the address is in both lines
top_of_two : top_text (record without_address { address = Some address }) (table_kept two)
    ≡ HEAD.now
    ++ codes "A &lt;hill&gt;"
    ++ BODY_START.now
    ++ codes "A &lt;hill&gt;</h1>\n"
    ++ codes "<p class=\"king\">King: <b>&lt;Scanner&gt;</b> by A. &amp; B. <span>25 points &middot; age 0</span> <span>the lowest has 4 points</span></p>\n"
    ++ codes "<pre>koth submit --to a.example:80 mine.red</pre>\n"
    ++ codes "<pre>(echo SUBMIT; sed 's/^\\./../; $a\\' mine.red; echo .; echo QUIT) | nc a.example 80</pre>\n"
unfolding age_text chars digits encode_utf8 escaped facts_text head_text is_utf8 king_text lines_text named_text points_text submit_text top_text utf8_error_len utf8_lossy utf8_valid_len
top_of_two = refl

table_of_two : standing_text (entered_rows two (table_kept two))
    ≡ STANDING_START.now
    ++ standing_start
    ++ codes "<th scope=\"col\">age</th><th scope=\"col\">entry</th></tr></thead>\n"
    ++ codes "<tr><td>1</td><th scope=\"row\" class=\"name\">&lt;Scanner&gt;</th><td class=\"name\">A. &amp; B.</td><td>25</td><td>8</td><td>1</td><td>1</td><td>0</td><td>3</td></tr>\n"
    ++ codes "<tr><td>2</td><th scope=\"row\" class=\"name\">Imp</th><td class=\"name\">A. &amp; B.</td><td>4</td><td>1</td><td>8</td><td>1</td><td>1</td><td>1</td></tr>\n"
    ++ TABLE_END.now
unfolding chars digits encode_utf8 escaped is_utf8 name_cell name_heading number_cell ranked_text standing_heading standing_row standing_start standing_text utf8_error_len utf8_lossy utf8_valid_len
table_of_two = refl

matches_of_two : matches_text (between two) Links.None (entered_rows two (table_kept two))
    ≡ MATCHES_START.now
    ++ codes "<thead><tr><th scope=\"col\">rank</th><th scope=\"col\" class=\"name\">warrior</th><th scope=\"col\" title=\"&lt;Scanner&gt;\">1</th><th scope=\"col\" title=\"Imp\">2</th></tr></thead>\n"
    ++ codes "<tr><td>1</td><th scope=\"row\" class=\"name\" id=\"w3\">&lt;Scanner&gt;</th><td class=\"self\">&middot;</td><td class=\"w3\" title=\"&lt;Scanner&gt; against Imp\">8-1</td></tr>\n"
    ++ codes "<tr><td>2</td><th scope=\"row\" class=\"name\" id=\"w1\">Imp</th><td class=\"l3\" title=\"Imp against &lt;Scanner&gt;\">1-8</td><td class=\"self\">&middot;</td></tr>\n"
    ++ TABLE_END.now
unfolding cell_start chars digits encode_utf8 escaped fought_cell fought_text is_utf8 matches_heading matches_row matches_text number_cell pair_text rank_heading rounds_text row_heading shade sides_text utf8_error_len utf8_lossy utf8_valid_len
matches_of_two = refl

-- both cells lead to the first round of the match, by the older warrior's entry and the younger's
rounds_of_two : matches_text (between two) Links.Rounds (entered_rows two (table_kept two))
    ≡ MATCHES_START.now
    ++ codes "<thead><tr><th scope=\"col\">rank</th><th scope=\"col\" class=\"name\">warrior</th><th scope=\"col\" title=\"&lt;Scanner&gt;\">1</th><th scope=\"col\" title=\"Imp\">2</th></tr></thead>\n"
    ++ codes "<tr><td>1</td><th scope=\"row\" class=\"name\" id=\"w3\">&lt;Scanner&gt;</th><td class=\"self\">&middot;</td>"
    ++ codes "<td class=\"w3\" title=\"&lt;Scanner&gt; against Imp\"><a href=\"/replay/1/3/1\" id=\"m3-1\" aria-labelledby=\"w3 vs w1 m3-1\">8-1</a></td></tr>\n"
    ++ codes "<tr><td>2</td><th scope=\"row\" class=\"name\" id=\"w1\">Imp</th>"
    ++ codes "<td class=\"l3\" title=\"Imp against &lt;Scanner&gt;\"><a href=\"/replay/1/3/1\" id=\"m1-3\" aria-labelledby=\"w1 vs w3 m1-3\">1-8</a></td><td class=\"self\">&middot;</td></tr>\n"
    ++ TABLE_END.now
unfolding cell_start chars digits encode_utf8 escaped fought_cell fought_text is_utf8 label_text link_start matches_heading matches_row matches_text number_cell pair_text rank_heading rounds_text row_heading shade sides_text utf8_error_len utf8_lossy utf8_valid_len
rounds_of_two = refl

-- two files by rank, the second read before the first: no match is linked, and nothing is said of places
abbrev ranked : ℕ → List ℕ → ℕ → Tally → RankedParts
ranked number name points rounds =
    record { number = number; name = name; author = codes "A."; points = points; rounds = rounds; origin = OriginParts.File (name ++ codes ".red") }

abbrev lead : Tally
lead = record { won = 8; lost = 1; tied = 11 }

abbrev behind : Tally
behind = record { won = 1; lost = 8; tied = 11 }

abbrev results : ℕ → ℕ → Tally
results one other = if nat_lt other one then lead else behind

ranking_of_two : ranking_page (codes "<>") settings true results (ranked 2 (codes "B") 35 lead ∷ ranked 1 (codes "&") 14 behind ∷ [])
    ≡ HEAD.now
    ++ codes "&lt;&gt;"
    ++ BODY_START.now
    ++ codes "&lt;&gt;</h1>\n"
    ++ codes "<details>\n<summary>Settings: core 8000, cycles 80000, processes 8000, length 100, distance 100, rounds 10 in both orders, write limit 4000"
    ++ RANKING_RULES.now
    ++ MEANINGS.now
    ++ STANDING_START.now
    ++ codes "<thead><tr><th scope=\"col\">rank</th><th scope=\"col\" class=\"name\">warrior</th><th scope=\"col\" class=\"name\">author</th>"
    ++ codes "<th scope=\"col\">points</th><th scope=\"col\">won</th><th scope=\"col\">lost</th><th scope=\"col\">tied</th><th scope=\"col\" class=\"name\">file</th></tr></thead>\n"
    ++ codes "<tr><td>1</td><th scope=\"row\" class=\"name\">B</th><td class=\"name\">A.</td><td>35</td><td>8</td><td>1</td><td>11</td><td class=\"name\">B.red</td></tr>\n"
    ++ codes "<tr><td>2</td><th scope=\"row\" class=\"name\">&amp;</th><td class=\"name\">A.</td><td>14</td><td>1</td><td>8</td><td>11</td><td class=\"name\">&amp;.red</td></tr>\n"
    ++ TABLE_END.now
    ++ MATCHES_START.now
    ++ codes "<thead><tr><th scope=\"col\">rank</th><th scope=\"col\" class=\"name\">warrior</th><th scope=\"col\" title=\"B\">1</th><th scope=\"col\" title=\"&amp;\">2</th></tr></thead>\n"
    ++ codes "<tr><td>1</td><th scope=\"row\" class=\"name\" id=\"w2\">B</th><td class=\"self\">&middot;</td><td class=\"w2\" title=\"B against &amp;\">8-1</td></tr>\n"
    ++ codes "<tr><td>2</td><th scope=\"row\" class=\"name\" id=\"w1\">&amp;</th><td class=\"l2\" title=\"&amp; against B\">1-8</td><td class=\"self\">&middot;</td></tr>\n"
    ++ TABLE_END.now
    ++ END.now
unfolding cell_start chars digits encode_utf8 escaped fought_cell fought_text head_text is_utf8 limit_text limits_text machine_text matches_heading matches_row matches_text name_cell name_heading number_cell pair_text rank_heading ranked_text ranking_line ranking_page ranking_settings rounds_text row_heading rules_text setting_text shade sides_text standing_heading standing_row standing_start standing_text utf8_error_len utf8_lossy utf8_valid_len
ranking_of_two = refl

-- a lead of one round of ten, of just over a quarter of them, and of all
shades : (shade (record { won = 5; lost = 4; tied = 1 }) ≡ codes "w1") × (shade (record { won = 1; lost = 4; tied = 5 }) ≡ codes "l2")
    × (shade (record { won = 10; lost = 0; tied = 0 }) ≡ codes "w4") × (shade (record { won = 2; lost = 2; tied = 6 }) ≡ codes "e")
unfolding digits shade
shades = (refl, refl, refl, refl)
