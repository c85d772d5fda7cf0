-- What `page` answers.
use Rattle.std.specs.Prelude.{◌≡◌, []}
use Rattle.{koth_hill.specs.Kept.Kept, koth_page.specs.{Page.hill_page, Sign.untold, declared.links.Links.Links}}
use Rattle.koth_commands.specs.{Answer.{AnswerParts, answer_parts}, declared.status.Status.Status}

-- the page of some hill, by the results that it keeps, without an address and links
abbrev pub SaysPage : AnswerParts → Type 0
SaysPage answer = (hill : Kept) × (answer ≡ answer_parts Status.Done (hill_page hill untold Links.None) [])
