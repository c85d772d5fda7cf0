-- What holds of every page holds of this one.
use Rattle.{std.proofs.Common.{◌≡◌, true, ap, ◌∙◌}, std.specs.List.list_all, std.proofs.lemmas.Result.IfOk-weaker, koth_text.specs.Characters.{is_page_byte, markup_of}}
use Rattle.{koth_text.proofs.Ascii.harmless, koth_page.specs.{Laws.{another_seed, nameless_rows}, Ranked.all_parts, Ranking.ranking_page}}
use Rattle.koth_page.proofs.{Ascii.ascii_ranking, Markup.ranking_markup, Seed.ranking-seed}
use Rattle.koth_page.proofs.ranking.ranking_page.Goals as goal

pub returns-clause-harmless : goal.returns-clause-harmless
returns-clause-harmless g c = harmless

pub returns-clause-markup : goal.returns-clause-markup
returns-clause-markup g c =
    let a = c.args in
    let results = g.R.Results.rounds a.results.now in
    let rows = all_parts a.rows.now in
    IfOk-weaker c.page_of.result (λ page. page.items ≡ ranking_page a.title.now a.settings.now a.both results rows)
    (λ page. markup_of page.items ≡ markup_of (ranking_page a.title.now a.settings.now a.both results (nameless_rows rows)))
    (λ page is. ap markup_of is ∙ ranking_markup a.title.now a.settings.now a.both results rows) c.page_of.ensures

pub returns-clause-ascii : goal.returns-clause-ascii
returns-clause-ascii g c =
    let a = c.args in
    let results = g.R.Results.rounds a.results.now in
    let rows = all_parts a.rows.now in
    IfOk-weaker c.page_of.result (λ page. page.items ≡ ranking_page a.title.now a.settings.now a.both results rows) (λ page. list_all is_page_byte page.items ≡ true)
    (λ page is. ap (list_all is_page_byte) is ∙ ascii_ranking a.title.now a.settings.now a.both results rows) c.page_of.ensures

pub returns-clause-seed : goal.returns-clause-seed
returns-clause-seed g c =
    let a = c.args in
    let results = g.R.Results.rounds a.results.now in
    let rows = all_parts a.rows.now in
    λ seed. IfOk-weaker c.page_of.result (λ page. page.items ≡ ranking_page a.title.now a.settings.now a.both results rows)
    (λ page. page.items ≡ ranking_page a.title.now (another_seed seed a.settings.now) a.both results rows)
    (λ page is. is ∙ ranking-seed a.title.now a.settings.now a.both results rows seed) c.page_of.ensures
