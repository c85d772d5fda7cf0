-- The five parts of a page.
use Rattle.{std.proofs.Common.{◌++◌, ◌∙◌, List, ℕ, ap}, koth_text.proofs.Steps.five_parts}
use Rattle.koth_page.specs.{declared.links.Links.Links, declared.parts.TheConstants.END, Ranked.all_parts, Ranking.{note_of, ranking_page}, Settings.ranking_settings, Tables.tables_text, Top.head_text}
use Rattle.koth_page.proofs.ranking.put_page.Goals as goal

pub returns : goal.returns
unfolding ranking_page
returns g c =
    let a = c.args in
    let rows = all_parts a.rows.now in
    let one = c.put_head.new.page.items in
    five_parts a.page.now.items (head_text a.title.now) (note_of rows) (ranking_settings a.settings.now a.both) (tables_text (g.R.Results.rounds a.results.now) Links.None rows) END.now
    one c.extend_from_slice.new.self.items c.put_ranking_settings.new.page.items c.put_tables.new.page.items c.extend_from_slice-2.new.self.items
    c.in_ok-put_head.ensures (c.in_ok-extend_from_slice.ensures.items ∙ ap (λ (note : List ℕ). one ++ note) c.note_of.ensures)
    c.in_ok-put_ranking_settings.ensures c.in_ok-put_tables.ensures c.in_ok-extend_from_slice-2.ensures.items
