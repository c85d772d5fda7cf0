-- The lines that are read so far, and those that are read of the lines that are left.
use Rattle.{std.proofs.Common.{◌≡◌, ◌≤◌, ◌+◌, ◌++◌, length, map}, redcode_lines.specs.Views.line_read, redcode_warnings.specs.Read.{around, lines_read}}
use Rattle.redcode_warnings.proofs.read.lines_read.Given as goal

abbrev pub invariant-loop-rest : goal.invariant-loop-rest
invariant-loop-rest g l = record {
  read : map line_read l.read.items ++ lines_read (around l.around.written l.around.dropped) l.rest ≡ lines_read (around 0 0) l.lines;
  few : l.around.written + l.around.dropped + length l.rest ≤ 65536;
}

abbrev pub decreases-loop-rest : goal.decreases-loop-rest
decreases-loop-rest g l = length l.rest
