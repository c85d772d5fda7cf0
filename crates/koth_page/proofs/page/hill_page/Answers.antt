-- What holds of every page holds of this one.
use Rattle.{std.proofs.Common.{◌≡◌, true, ap, ◌∙◌}, std.specs.List.list_all, std.proofs.lemmas.Result.IfOk-weaker, koth_text.specs.Characters.{is_page_byte, markup_of}}
use Rattle.{koth_text.proofs.Ascii.harmless, koth_page.specs.{Laws.{nameless, with_seed}, Page.hill_page, Sign.sign_parts}, koth_page.proofs.{Ascii.ascii, Markup.markup, Seed.page-seed}}
use Rattle.koth_page.proofs.page.hill_page.Goals as goal

pub returns-clause-harmless : goal.returns-clause-harmless
returns-clause-harmless g c = harmless

pub returns-clause-markup : goal.returns-clause-markup
returns-clause-markup g c =
    let k = c.args.hill.now in
    let sign = sign_parts c.args.sign.now in
    let links = c.args.links in
    IfOk-weaker c.page_of.result (λ page. page.items ≡ hill_page k sign links) (λ page. markup_of page.items ≡ markup_of (hill_page (nameless k) sign links))
    (λ page is. ap markup_of is ∙ markup k sign links) c.page_of.ensures

pub returns-clause-ascii : goal.returns-clause-ascii
returns-clause-ascii g c =
    let k = c.args.hill.now in
    let sign = sign_parts c.args.sign.now in
    let links = c.args.links in
    IfOk-weaker c.page_of.result (λ page. page.items ≡ hill_page k sign links) (λ page. list_all is_page_byte page.items ≡ true)
    (λ page is. ap (list_all is_page_byte) is ∙ ascii k sign links) c.page_of.ensures

pub returns-clause-seed : goal.returns-clause-seed
returns-clause-seed g c =
    let k = c.args.hill.now in
    let sign = sign_parts c.args.sign.now in
    let links = c.args.links in
    λ seed. IfOk-weaker c.page_of.result (λ page. page.items ≡ hill_page k sign links) (λ page. page.items ≡ hill_page (with_seed seed k) sign links)
    (λ page is. is ∙ page-seed k sign links seed) c.page_of.ensures
