-- The bytes so far can be printed.
use Rattle.{std.proofs.Common.{All, take}, war_types.specs.Title.IsPrintable}
use Rattle.war_types.proofs.title.printable_len.Given as goal

abbrev pub invariant-loop-i : goal.invariant-loop-i
invariant-loop-i l = All IsPrintable (take l.i l.text)
