-- The findings so far are told, each at a place in its line.
use Rattle.{std.proofs.Common.{◌≡◌, ◌++◌, All, length, map}, redcode_lines.specs.Place.{IsPlaceIn, line_text}, redcode_warnings.specs.{Views.notes, Warnings.noted}}
use Rattle.redcode_warnings.proofs.warning.told_all.Given as goal

abbrev pub invariant-loop-rest : goal.invariant-loop-rest
invariant-loop-rest g l = record {
  told : map (λ w. noted w.kind w.line) l.all.items ++ notes l.rest ≡ notes l.found;
  placed : All (λ w. IsPlaceIn (line_text l.source w.line) w.column w.width) l.all.items;
}

abbrev pub decreases-loop-rest : goal.decreases-loop-rest
decreases-loop-rest g l = length l.rest
