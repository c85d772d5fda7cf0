-- One byte after the other.
use Rattle.std.proofs.Common.{◌∙◌, ap, fold}
use Rattle.{std.proofs.lemmas.List.{take_all}, koth_words.specs.{Place.{is_port, part_after}, declared.place.Part.Part}}
use Rattle.koth_words.proofs.place.names_port.Goals as goal

pub returns : goal.returns
returns c = c.is_port.ensures ∙ ap is_port (c.loop-byte.invariant ∙ ap (fold part_after Part.Nothing) (take_all _ _ c.loop-byte-test.false))
