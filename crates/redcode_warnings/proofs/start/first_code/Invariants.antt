-- No line so far is an instruction.
use Rattle.{std.proofs.Common.{◌≡◌, length, map}, redcode_lines.specs.Views.line_read, redcode_warnings.specs.Start.first_code}
use Rattle.redcode_warnings.proofs.start.first_code.Given as goal

abbrev pub invariant-loop-rest : goal.invariant-loop-rest
invariant-loop-rest l = first_code 65537 (map line_read l.rest) ≡ first_code 65537 (map line_read l.lines)

abbrev pub decreases-loop-rest : goal.decreases-loop-rest
decreases-loop-rest l = length l.rest
