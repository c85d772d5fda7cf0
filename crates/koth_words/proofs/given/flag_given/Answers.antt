-- The flag is read from the text that the matches have.
use Rattle.{std.proofs.Common.{◌∙◌, ap}, std.specs.Str.Parse.ParsesBool, clap.proofs.WalkLemmas.one_text-rows, clap.specs.Matches.{found_of, one_text}, koth_words.specs.Words.is_true}
use Rattle.koth_words.proofs.Flags.{reads_flag}
use Rattle.koth_words.proofs.given.flag_given.Goals as goal

pub returns : goal.returns
returns c =
    let found = found_of c.args.matches.now in
    let id = c.args.name.now in
    c.unwrap_or.ensures
    ∙ reads_flag (λ bs r. ParsesBool bs r) (λ u x g. g) (one_text found id) c.get_one.result c.get_one.ensures.none c.get_one.ensures.value
    ∙ ap is_true (one_text-rows found id)
