-- What is written and what is left are the text.
use Rattle.{std.proofs.Common.{◌≡◌, ◌++◌, List, ℕ, length}, std.specs.Io.KnownBytes.Appends}
use Rattle.koth_protocol.proofs.counted.send.Given as goal

abbrev pub invariant-loop-rest : goal.invariant-loop-rest
invariant-loop-rest g l = record {
  part : List ℕ;
  split : l.text ≡ part ++ l.rest;
  written : Appends (g.W.Write.contents l.initial.output.stream) (g.W.Write.contents l.output.stream) part;
  faults : l.output.faults ≡ l.initial.output.faults;
}

abbrev pub decreases-loop-rest : goal.decreases-loop-rest
decreases-loop-rest g l = length l.rest
