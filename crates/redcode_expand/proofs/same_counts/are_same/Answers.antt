use Rattle.std.proofs.{lemmas.Grind.common_steps, Common.arith}
use Rattle.redcode_expand.proofs.same_counts.are_same.Goals as goal

pub loop-rest-preserved : goal.loop-rest-preserved
loop-rest-preserved c = grind (arith, common_steps)
