-- What holds of every page of a round holds of this one.
use Rattle.{std.proofs.Common.{◌≡◌, true, ap, ◌∙◌}, std.specs.List.list_all, std.proofs.lemmas.Result.IfOk-weaker, koth_text.specs.Characters.{is_page_byte, markup_of}}
use Rattle.{koth_watch.specs.{Laws.unnamed, Page.round_page}, koth_watch.proofs.{Bytes.{ascii, contained}, Markup.markup}}
use Rattle.koth_watch.proofs.page.round_page.Goals as goal

pub returns-clause-contained : goal.returns-clause-contained
returns-clause-contained g c = contained c.args.replay.now

pub returns-clause-markup : goal.returns-clause-markup
returns-clause-markup g c =
    let older = c.args.older.now in
    let younger = c.args.younger.now in
    let r = c.args.replay.now in
    IfOk-weaker c.page_of.result (λ page. page.items ≡ round_page older younger c.args.told.now r)
    (λ page. markup_of page.items ≡ markup_of (round_page (unnamed older) (unnamed younger) c.args.told.now r))
    (λ page is. ap markup_of is ∙ markup older younger c.args.told.now r) c.page_of.ensures

pub returns-clause-ascii : goal.returns-clause-ascii
returns-clause-ascii g c =
    let older = c.args.older.now in
    let younger = c.args.younger.now in
    let r = c.args.replay.now in
    IfOk-weaker c.page_of.result (λ page. page.items ≡ round_page older younger c.args.told.now r) (λ page. list_all is_page_byte page.items ≡ true)
    (λ page is. ap (list_all is_page_byte) is ∙ ascii older younger c.args.told.now r) c.page_of.ensures
