-- All words are places.
use Rattle.std.proofs.Common.{◌∙◌, Bor, ap, map, refl}
use Rattle.{std.proofs.lemmas.List.take_all, clap.specs.Walk.Text, koth_words.{specs.Sources.{place_at}, proofs.Texts.{file_texts, placed}}}
use Rattle.koth_words.proofs.sources.sources_named.Goals as goal

pub returns : goal.returns
returns c =
    let named = c.unwrap_or-word-items.result in
    let given = file_texts c.words_given.result _ named _ c.unwrap_or-word-items.ensures refl c.words_given.ensures in
    c.loop-word.invariant ∙ ap (map (λ (word : Bor Text). place_at c.input_name-called.result.now word.now)) (take_all _ named.now c.loop-word-test.false)
    ∙ placed _ named.now ∙ ap (λ (called : Text). map (place_at called) (map (λ (word : Bor Text). word.now) named.now)) c.input_name-called.ensures
    ∙ ap (map (place_at _)) given
