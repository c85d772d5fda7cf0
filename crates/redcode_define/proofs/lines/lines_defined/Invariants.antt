-- What is written and found so far, with what is left, is that of the source.
use Rattle.{std.proofs.Common.{◌≡◌, ◌≤◌, ◌+◌, ◌++◌, ◌||◌, length}, redcode_lines.specs.Source.lines_of, redcode_define.specs.{Define.{has_equ_of, lines_defined}, Place.open_in}}
use Rattle.redcode_define.proofs.lines.lines_defined.Given as goal

abbrev pub invariant-loop-rest : goal.invariant-loop-rest
invariant-loop-rest g l = record {
  text : l.text.items ++ lines_defined l.name l.value l.place (lines_of l.rest) ≡ lines_defined l.name l.value l.fn.first (lines_of l.source);
  found : (l.found || has_equ_of l.name l.place (lines_of l.rest)) ≡ has_equ_of l.name l.fn.first (lines_of l.source);
  blocks : open_in l.place + length l.rest ≤ 65536;
}

abbrev pub decreases-loop-rest : goal.decreases-loop-rest
decreases-loop-rest g l = length l.rest
