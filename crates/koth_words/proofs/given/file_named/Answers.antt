-- A file's name is the text that the matches have.
use Rattle.{std.proofs.Common.refl, koth_words.proofs.Texts.file_text}
use Rattle.koth_words.proofs.given.file_named.Goals as goal

pub returns : goal.returns
returns c = file_text c.text_given.result _ c.unwrap_or.result _ c.unwrap_or.ensures refl c.text_given.ensures
