-- The line after `left` others in the rest is the line after `count` others in the source.
use Rattle.{std.proofs.Common.{◌≡◌, length}, redcode_lines.specs.{Source.lines_of, Place.line_behind}}
use Rattle.redcode_lines.proofs.line.line_behind.Given as goal

abbrev pub invariant-loop-rest : goal.invariant-loop-rest
invariant-loop-rest l = line_behind l.left (lines_of l.rest) ≡ line_behind l.count (lines_of l.source)

abbrev pub decreases-loop-rest : goal.decreases-loop-rest
decreases-loop-rest l = length l.rest
