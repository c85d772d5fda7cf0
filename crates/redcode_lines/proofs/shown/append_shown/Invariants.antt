-- What is shown, with what is left to show, is the whole.
use Rattle.{std.proofs.Common.{◌≡◌, ◌++◌, length}, redcode_lines.specs.Shown.shown_text}
use Rattle.redcode_lines.proofs.shown.append_shown.Given as goal

abbrev pub invariant-loop-rest : goal.invariant-loop-rest
invariant-loop-rest g l = l.shown.items ++ shown_text l.rest ≡ l.fn.shown.items ++ shown_text l.text

abbrev pub decreases-loop-rest : goal.decreases-loop-rest
decreases-loop-rest g l = length l.rest
