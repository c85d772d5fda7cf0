-- The number is read from the text that the matches have.
use Rattle.{std.proofs.Common.{◌∙◌, ap, refl}, std.specs.Str.Parse.{ExplainsUnsignedError, HasUnsignedDigitsIfOk, ParsesUnsigned}, clap.proofs.WalkLemmas.one_text-rows}
use Rattle.{clap.specs.Matches.{found_of, one_text}, koth_words.specs.Options.number_given, koth_words.proofs.Numbers.reads_number}
use Rattle.koth_words.proofs.options.number_if_given.Goals as goal

pub returns : goal.returns
returns c =
    let found = found_of c.args.matches.now in
    let id = c.args.name.now in
    reads_number 32 4294967296 refl (λ bs r. ParsesUnsigned 32 10 bs r × ExplainsUnsignedError 10 bs r × HasUnsignedDigitsIfOk bs r) (λ u x g. g.0)
    (one_text found id) c.get_one.result c.get_one.ensures.none c.get_one.ensures.value
    ∙ ap (number_given 4294967296) (one_text-rows found id)
