-- What is found so far, and what is found in the lines that are left.
use Rattle.{std.proofs.Common.{◌≡◌, ◌++◌, length, map}, redcode_lines.specs.Views.line_read, redcode_warnings.specs.{Start.starts_by, Views.{has_name, notes}, Warnings.noted_lines}}
use Rattle.redcode_warnings.proofs.finding.find_in_lines.Given as goal

abbrev pub invariant-loop-rest : goal.invariant-loop-rest
invariant-loop-rest g l =
    notes l.found.items ++ noted_lines (has_name l.named) (starts_by l.starts.org l.starts.is_given l.starts.code) (map line_read l.rest)
    ≡ notes l.fn.found.items ++ noted_lines (has_name l.named) (starts_by l.starts.org l.starts.is_given l.starts.code) (map line_read l.read)

abbrev pub decreases-loop-rest : goal.decreases-loop-rest
decreases-loop-rest g l = length l.rest
