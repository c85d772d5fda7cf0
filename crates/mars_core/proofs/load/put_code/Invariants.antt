use lib.Seq.{paste}
use Rattle.{std.proofs.Common.◌≡◌, mars_core.specs.Cells.IsCore}
use Rattle.mars_core.proofs.load.put_code.Given as goal

abbrev pub invariant-loop-place : goal.invariant-loop-place
invariant-loop-place g l = record {
  value : l.core ≡ paste l.fn.core l.position l.code l.place;
  core : IsCore l.size l.core;
}
