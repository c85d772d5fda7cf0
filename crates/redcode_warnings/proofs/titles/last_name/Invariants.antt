-- The last text of these lines is that of the lines that are left, or the one so far.
use Rattle.{std.proofs.Common.{◌≡◌, [], length, map}, redcode_lines.specs.Views.line_read, redcode_warnings.specs.Titles.{last_text, is_name}}
use Rattle.redcode_warnings.proofs.titles.last_name.Given as goal

abbrev pub invariant-loop-rest : goal.invariant-loop-rest
invariant-loop-rest l = last_text is_name l.text (map line_read l.rest) ≡ last_text is_name [] (map line_read l.lines)

abbrev pub decreases-loop-rest : goal.decreases-loop-rest
decreases-loop-rest l = length l.rest
