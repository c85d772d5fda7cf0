-- A text is what the matches have first.
use Rattle.{std.proofs.Common.◌∙◌, clap.proofs.WalkLemmas.first_value-rows, clap.specs.Matches.found_of}
use Rattle.koth_words.proofs.given.text_given.Goals as goal

pub returns : goal.returns
returns c = c.get_str.ensures ∙ first_value-rows (found_of c.args.matches.now) c.args.name.now
