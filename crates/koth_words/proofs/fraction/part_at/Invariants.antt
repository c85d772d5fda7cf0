use Rattle.std.proofs.Common.{◌≡◌, fold, take}
use Rattle.koth_words.specs.{Fraction.read_after, declared.fraction.Read.Read}
use Rattle.koth_words.proofs.fraction.part_at.Given as goal

abbrev pub invariant-loop-byte : goal.invariant-loop-byte
invariant-loop-byte l = l.read ≡ fold read_after Read.Nothing (take l.byte-index l.text)
