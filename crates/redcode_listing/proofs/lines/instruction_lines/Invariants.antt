-- The lines of instructions so far, and those among the lines that are left.
use Rattle.{std.proofs.Common.{◌≡◌, ◌++◌, drop}, redcode_listing.specs.Lines.instruction_lines}
use Rattle.redcode_listing.proofs.lines.instruction_lines.Given as goal

abbrev pub invariant-loop-entry : goal.invariant-loop-entry
invariant-loop-entry g l = l.lines.items ++ instruction_lines (drop l.entry-index l.entries) ≡ instruction_lines l.entries
