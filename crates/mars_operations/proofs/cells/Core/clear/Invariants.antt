use Rattle.{std.proofs.Common.{◌≡◌, ◌≤◌, length}, mars_operations.proofs.Marks.AreLeft}
use Rattle.mars_operations.proofs.cells.Core.clear.Given as goal

abbrev pub invariant-loop-place : goal.invariant-loop-place
invariant-loop-place g l = record {
  small : length l.self-inside.cells.items ≤ 65535;
  cells : length l.self-inside.cells.items ≡ length l.fn.self;
  room : length l.self-inside.written.items ≡ length l.self-inside.cells.items;
  left : AreLeft l.self-inside.cells.items l.self-inside.written.items l.place l.place-end;
}
