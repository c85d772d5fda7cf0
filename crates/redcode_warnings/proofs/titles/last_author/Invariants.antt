-- The last text of these lines is that of the lines that are left, or the one so far.
use Rattle.{std.proofs.Common.{◌≡◌, [], length, map}, redcode_lines.specs.Views.line_read, redcode_warnings.specs.Titles.{last_text, is_author}}
use Rattle.redcode_warnings.proofs.titles.last_author.Given as goal

abbrev pub invariant-loop-rest : goal.invariant-loop-rest
invariant-loop-rest l = last_text is_author l.text (map line_read l.rest) ≡ last_text is_author [] (map line_read l.lines)

abbrev pub decreases-loop-rest : goal.decreases-loop-rest
decreases-loop-rest l = length l.rest
