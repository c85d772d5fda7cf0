-- A blank is put for each iteration so far.
use Rattle.std.proofs.Common.{◌≡◌, ◌++◌, replicate}
use Rattle.koth_text.proofs.columns.put_blanks.Given as goal

abbrev pub invariant-loop : goal.invariant-loop
invariant-loop g l = l.line.items ≡ l.fn.line.items ++ replicate l.counter 32
