-- The directive of what is left is that of the line.
use Rattle.{std.proofs.Common.{◌≡◌, drop}, redcode_lines.specs.Source.directive_of}
use Rattle.redcode_lines.proofs.source.directive_of.Given as goal

abbrev pub invariant-loop-i : goal.invariant-loop-i
invariant-loop-i l = directive_of (drop l.i l.line) ≡ directive_of l.line
