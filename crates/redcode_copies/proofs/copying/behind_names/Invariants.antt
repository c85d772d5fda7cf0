-- What follows the names of what is left follows those of the line.
use Rattle.{std.proofs.Common.{◌≡◌, drop}, redcode_lines.specs.Line.dropped_while, redcode_copies.specs.Counter.is_label}
use Rattle.redcode_copies.proofs.copying.behind_names.Given as goal

abbrev pub invariant-loop-i : goal.invariant-loop-i
invariant-loop-i l = dropped_while is_label (drop l.i l.tokens) ≡ dropped_while is_label l.tokens
