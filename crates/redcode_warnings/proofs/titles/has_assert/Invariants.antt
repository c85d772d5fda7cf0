-- An assertion among these lines is among those that are left.
use Rattle.{std.proofs.Common.{◌≡◌, length, map}, redcode_lines.specs.Views.line_read, redcode_warnings.specs.Titles.{has_form, is_assert}}
use Rattle.redcode_warnings.proofs.titles.has_assert.Given as goal

abbrev pub invariant-loop-rest : goal.invariant-loop-rest
invariant-loop-rest l = has_form is_assert (map line_read l.rest) ≡ has_form is_assert (map line_read l.lines)

abbrev pub decreases-loop-rest : goal.decreases-loop-rest
decreases-loop-rest l = length l.rest
