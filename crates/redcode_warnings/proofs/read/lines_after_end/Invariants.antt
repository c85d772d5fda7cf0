-- What is after the END is after it in the lines that are left.
use Rattle.{std.proofs.Common.{◌≡◌, ◌≤◌, ◌+◌, length}, redcode_warnings.specs.Read.{around, lines_after_end}}
use Rattle.redcode_warnings.proofs.read.lines_after_end.Given as goal

abbrev pub invariant-loop-rest : goal.invariant-loop-rest
invariant-loop-rest g l = record {
  unread : lines_after_end (around l.around.written l.around.dropped) l.rest ≡ lines_after_end (around 0 0) l.lines;
  few : l.around.written + l.around.dropped + length l.rest ≤ 65536;
}

abbrev pub decreases-loop-rest : goal.decreases-loop-rest
decreases-loop-rest g l = length l.rest
