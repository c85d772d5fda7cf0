-- One byte after the other.
use Rattle.std.proofs.Common.{◌∙◌, ap, fold}
use Rattle.{std.proofs.lemmas.List.{take_all}, koth_words.specs.{Fraction.{part_of, read_after}, declared.fraction.Read.Read}}
use Rattle.koth_words.proofs.fraction.part_at.Goals as goal

pub returns : goal.returns
returns c = c.part_of.ensures ∙ ap part_of (c.loop-byte.invariant ∙ ap (fold read_after Read.Nothing) (take_all _ _ c.loop-byte-test.false))
