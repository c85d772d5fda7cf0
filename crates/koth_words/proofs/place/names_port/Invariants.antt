use Rattle.std.proofs.Common.{◌≡◌, fold, take}
use Rattle.koth_words.specs.{Place.part_after, declared.place.Part.Part}
use Rattle.koth_words.proofs.place.names_port.Given as goal

abbrev pub invariant-loop-byte : goal.invariant-loop-byte
invariant-loop-byte l = l.part ≡ fold part_after Part.Nothing (take l.byte-index l.text)
