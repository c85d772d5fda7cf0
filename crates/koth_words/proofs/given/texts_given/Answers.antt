-- The texts are those that the matches have.
use Rattle.{std.proofs.Common.{◌∙◌, ◌++◌, List, Bor, ap, map, refl}, clap.specs.Walk.Text, koth_words.proofs.Texts.file_texts}
use Rattle.koth_words.proofs.given.texts_given.Goals as goal

pub returns : goal.returns
returns c =
    let named = c.unwrap_or.result in
    ap (map (λ (v : Bor Text). v.now)) (c.in_ok-extend_from_slice.ensures.items ∙ ap (λ (xs : List (Bor Text)). xs ++ named.now) c.new-texts.ensures.items)
    ∙ file_texts c.words_given.result _ named _ c.unwrap_or.ensures refl c.words_given.ensures
