-- The bytes so far are those of the text as they are shown, and the array keeps its 48 places.
use Rattle.{std.proofs.Common.{◌≡◌, length, map, take}, war_types.specs.Title.shown}
use Rattle.war_types.proofs.title.Title.of_shown.Given as goal

abbrev pub invariant-loop-i : goal.invariant-loop-i
invariant-loop-i l = (take l.i l.bytes ≡ map shown (take l.i l.text)) × (length l.bytes ≡ 48)
