-- The text is what the matches have.
use Rattle.std.proofs.Common.{◌∙◌, ap, Option, option_and_then}
use Rattle.{clap.specs.Walk.Text, koth_words.{specs.Fraction.part_at, proofs.Addresses.given_is}}
use Rattle.koth_words.proofs.fraction.part_given.Goals as goal

pub returns-in-Some : goal.returns-in-Some
returns-in-Some c =
    c.part_at.ensures ∙ ap part_at c.as_bytes.ensures.value ∙ ap (λ (text : Option Text). option_and_then part_at text) (given_is c.text_given.result c.in-Some.text _ c.text_given.ensures c.in-Some.is)
