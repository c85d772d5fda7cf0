-- The first ;redcode line of what is left is that of the source.
use Rattle.{std.proofs.Common.{◌≡◌, ◌+◌, ◌≤◌, length}, redcode_lines.specs.Source.{lines_of, numbered_from, redcode_on}}
use Rattle.redcode_lines.proofs.source.live_source.Given as goal

abbrev pub invariant-loop-rest : goal.invariant-loop-rest
invariant-loop-rest l = (redcode_on (numbered_from l.number (lines_of l.rest)) ≡ redcode_on (numbered_from 1 (lines_of l.source))) × (1 ≤ l.number) × (l.number + length l.rest ≤ 65537)

abbrev pub decreases-loop-rest : goal.decreases-loop-rest
decreases-loop-rest l = length l.rest
