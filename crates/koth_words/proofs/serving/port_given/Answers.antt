-- The port is read from the text that the matches have.
use Rattle.{std.proofs.Common.{◌∙◌, ℕ, Option, ap, refl, codes}, std.specs.{Prelude.unwrap_or, Str.Parse.{ExplainsUnsignedError, HasUnsignedDigitsIfOk, ParsesUnsigned}}}
use Rattle.{clap.proofs.WalkLemmas.one_text-rows, clap.specs.Matches.{found_of, one_text}, koth_words.specs.Options.number_below, koth_words.proofs.Numbers.reads_number}
use Rattle.koth_words.proofs.serving.port_given.Goals as goal

pub returns : goal.returns
returns c =
    let found = found_of c.args.matches.now in
    let id = codes "port" in
    let given = reads_number 16 65536 refl (λ bs r. ParsesUnsigned 16 10 bs r × ExplainsUnsignedError 10 bs r × HasUnsignedDigitsIfOk bs r) (λ u x g. g.0)
    (one_text found id) c.get_one.result c.get_one.ensures.none c.get_one.ensures.value in
    c.unwrap_or.ensures ∙ ap (λ (n : Option ℕ). unwrap_or n 0) given ∙ ap (number_below 65536 0) (one_text-rows found id)
