-- A write that was interrupted wrote nothing.
use Rattle.std.specs.Io.KnownBytes.{Keeps}
use Rattle.koth_text.proofs.uninterrupted.write_uninterrupted.Given as goal

abbrev pub invariant-loop : goal.invariant-loop
invariant-loop g l = Keeps (g.W.Write.contents l.initial.output) (g.W.Write.contents l.output)
