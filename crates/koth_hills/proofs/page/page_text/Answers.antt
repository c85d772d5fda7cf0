use Rattle.{std.proofs.Common.{◌≡◌, IfOk, subst}, koth_page.specs.{Page.hill_page, Sign.untold, declared.links.Links.Links}}
use Rattle.koth_hills.proofs.page.page_text.Goals as goal

pub returns : goal.returns
returns g c = subst (λ hill. IfOk c.hill_page.result (λ text. text.items ≡ hill_page hill untold Links.None)) c.hill.ensures c.hill_page.ensures.page
