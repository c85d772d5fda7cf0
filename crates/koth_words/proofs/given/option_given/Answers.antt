-- An option is given if the matches have a text for it.
use Rattle.{std.proofs.Common.◌∙◌, koth_words.proofs.Texts.same_given}
use Rattle.koth_words.proofs.given.option_given.Goals as goal

pub returns : goal.returns
returns c = c.is_some.ensures ∙ same_given c.text_given.result _ c.text_given.ensures
