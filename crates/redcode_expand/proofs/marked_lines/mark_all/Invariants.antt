-- All lines from one on are marked, and the first ROF from there on is known.
use Rattle.{std.proofs.Common.{◌≤◌, length}, redcode_expand.specs.Marks.{AreMarked, IsNextRof}}
use Rattle.redcode_expand.proofs.marked_lines.mark_all.Given as goal

abbrev pub invariant-loop-at : goal.invariant-loop-at
invariant-loop-at g l = AreMarked l.at l.lines l.marks × IsNextRof l.lines l.at l.rof × (l.at ≤ length l.lines)

abbrev pub decreases-loop-at : goal.decreases-loop-at
decreases-loop-at g l = l.at
