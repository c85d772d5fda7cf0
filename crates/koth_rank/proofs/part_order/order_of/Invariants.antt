-- The first files have places.
use Rattle.{std.{proofs.Common.{◌≡◌, length}, specs.Io.KnownBytes.Keeps}}
use Rattle.koth_rank.proofs.part_order.order_of.Given as goal

abbrev pub invariant-loop-at : goal.invariant-loop-at
invariant-loop-at g l = record {
  many : length l.order.items ≡ length l.files;
  kept : Keeps (g.E.Write.contents l.fn.errors) (g.E.Write.contents l.errors);
}
