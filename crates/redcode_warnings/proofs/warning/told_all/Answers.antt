use Rattle.std.proofs.{Common.{arith}, lemmas.Grind.common_steps}
use Rattle.redcode_warnings.proofs.warning.told_all.Goals as goal

pub loop-rest-preserved : goal.loop-rest-preserved
loop-rest-preserved g c = record {
  told = grind (arith, common_steps, c.in_ok-tell.ensures.told, c.loop-rest.invariant.told);
  placed = c.in_ok-tell.ensures.placed c.loop-rest.invariant.placed;
}
