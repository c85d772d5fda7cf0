-- So many blanks are put.
use Rattle.std.proofs.Common.{◌≡◌, ◌++◌, replicate}
use Rattle.koth_protocol.proofs.matches.put_right.Given as goal

abbrev pub invariant-loop : goal.invariant-loop
invariant-loop g l = l.text.items ≡ l.fn.text.items ++ replicate l.counter 32
