-- The text is what the matches have.
use Rattle.std.proofs.Common.{◌∙◌, ap, true, Option}
use Rattle.{std.specs.Option.option_map_or, clap.specs.Walk.Text, koth_words.{specs.Place.names_port, proofs.Addresses.given_is}}
use Rattle.koth_words.proofs.place.writes_place.Goals as goal

pub returns-in-Some : goal.returns-in-Some
returns-in-Some c =
    c.names_port.ensures ∙ ap names_port c.as_bytes.ensures.value ∙ ap (λ (text : Option Text). option_map_or names_port text true) (given_is c.text_given.result c.in-Some.text _ c.text_given.ensures c.in-Some.is)
