-- The number so far is no greater than the greatest.
use Rattle.std.proofs.Common.{◌≤◌}
use Rattle.redcode_define.proofs.numbers.number_of.Given as goal

abbrev pub invariant-loop-byte : goal.invariant-loop-byte
invariant-loop-byte l = l.number ≤ 4294967295
