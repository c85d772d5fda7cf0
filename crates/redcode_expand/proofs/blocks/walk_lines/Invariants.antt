-- What is left is due, and each line leaves fewer; a line takes no more than it may of the budget, and one step at least; without a block it is read once. What
-- was spent, and what is left takes, are no more than all takes.
use Rattle.{std.proofs.Common.{◌≡◌, ◌≤◌, ◌+◌, true, [], drop}, redcode_lines.specs.Block.parsed, redcode_expand.specs.{Walk.{walk_all, walk_begin}, Rest.{counters_of, rest_of, steps_left, AreOpen}, Budget.{most_lines, steps_of}, Kept.AreKept, Cut.with_cut, Steps.{are_plain, reads}, Left.rest_steps, Taken.walked_steps}}
use Rattle.redcode_expand.proofs.blocks.walk_lines.Given as goal

abbrev pub invariant-loop-at : goal.invariant-loop-at
invariant-loop-at g l =
    (with_cut (rest_of l.settings l.lines l.blocks (parsed (drop l.at l.lines)) l.walk) ≡ with_cut (walk_all l.settings (parsed l.lines) walk_begin))
    × AreOpen l.lines l.blocks (parsed (drop l.at l.lines)).1
    × AreKept l.settings l.lines (counters_of l.blocks) l.walk l.counts
    × (l.initial.steps + steps_of l.most (steps_left l.lines l.blocks l.at l.walk) ≤ l.steps + steps_of l.most most_lines)
    × (l.walk.counted + l.steps ≤ l.initial.steps)
    × (are_plain l.lines ≡ true → (l.blocks ≡ []) × (l.initial.steps + reads (drop l.at l.lines) ≤ l.steps + reads l.lines))
    × (l.initial.steps + rest_steps l.settings l.lines l.blocks (parsed (drop l.at l.lines)) l.walk ≤ l.steps + walked_steps l.settings (parsed l.lines))

abbrev pub decreases-loop-at : goal.decreases-loop-at
decreases-loop-at g l = steps_left l.lines l.blocks l.at l.walk
