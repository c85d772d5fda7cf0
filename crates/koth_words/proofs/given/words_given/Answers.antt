-- The words are what the matches have.
use Rattle.{std.proofs.Common.◌∙◌, clap.proofs.WalkLemmas.raw_values-rows, clap.specs.Matches.found_of}
use Rattle.koth_words.proofs.given.words_given.Goals as goal

pub returns : goal.returns
returns c = c.get_strs.ensures ∙ raw_values-rows (found_of c.args.matches.now) c.args.name.now
