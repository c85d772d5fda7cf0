-- No line so far is an END with a start.
use Rattle.{std.proofs.Common.{◌≡◌, length, map}, redcode_lines.specs.Views.line_read, redcode_warnings.specs.Start.has_end_start}
use Rattle.redcode_warnings.proofs.start.has_end_start.Given as goal

abbrev pub invariant-loop-rest : goal.invariant-loop-rest
invariant-loop-rest l = has_end_start (map line_read l.rest) ≡ has_end_start (map line_read l.lines)

abbrev pub decreases-loop-rest : goal.decreases-loop-rest
decreases-loop-rest l = length l.rest
