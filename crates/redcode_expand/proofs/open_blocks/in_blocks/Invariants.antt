-- Within the blocks from this index on the copy reads as the line does within all.
use Rattle.{std.proofs.Common.{◌≡◌, ◌≤◌, ◌-◌, drop, length}, redcode_lines.specs.Views.line_read, redcode_copies.specs.{Counter.in_copies, Views.with_tokens}}
use Rattle.redcode_expand.specs.Rest.{counters_in}
use Rattle.redcode_expand.proofs.open_blocks.in_blocks.Given as goal

abbrev pub invariant-loop-from : goal.invariant-loop-from
invariant-loop-from g l =
    (l.from ≤ length l.blocks) × (in_copies (counters_in (drop l.from l.blocks)) (with_tokens (line_read l.line) l.copy) ≡ in_copies (counters_in l.blocks) (line_read l.line))

abbrev pub decreases-loop-from : goal.decreases-loop-from
decreases-loop-from g l = length l.blocks - l.from
