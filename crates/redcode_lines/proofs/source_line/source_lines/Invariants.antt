-- The lines so far, and the lines of what is left.
use Rattle.{std.proofs.Common.{◌≡◌, ◌≤◌, ◌+◌, ◌++◌, length}, redcode_lines.specs.{Source.{lines_of, numbered_from}, Block.source_lines}}
use Rattle.redcode_lines.proofs.source_line.source_lines.Given as goal

abbrev pub invariant-loop-rest : goal.invariant-loop-rest
invariant-loop-rest g l =
    (l.lines.items ++ source_lines (numbered_from l.number (lines_of l.rest)) ≡ source_lines (numbered_from l.first (lines_of l.source)))
    × (1 ≤ l.number) × (l.number + length l.rest ≤ 65537) × (length l.lines.items + length l.rest ≤ length l.source)

abbrev pub decreases-loop-rest : goal.decreases-loop-rest
decreases-loop-rest g l = length l.rest
