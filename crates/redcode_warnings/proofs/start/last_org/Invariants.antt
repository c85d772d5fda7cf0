-- The last ORG of the lines that are left, else the one so far, is that of all lines.
use Rattle.{std.proofs.Common.{◌≡◌, length, map}, redcode_lines.specs.Views.line_read, redcode_warnings.specs.Start.last_org}
use Rattle.redcode_warnings.proofs.start.last_org.Given as goal

abbrev pub invariant-loop-rest : goal.invariant-loop-rest
invariant-loop-rest l = last_org l.number (map line_read l.rest) ≡ last_org 0 (map line_read l.lines)

abbrev pub decreases-loop-rest : goal.decreases-loop-rest
decreases-loop-rest l = length l.rest
