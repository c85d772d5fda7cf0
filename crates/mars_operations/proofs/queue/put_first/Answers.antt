use Rattle.std.proofs.{Common.arith, lemmas.Grind.common_steps}
use Rattle.mars_operations.proofs.queue.put_first.Goals as goal

pub loop-at-preserved : goal.loop-at-preserved
loop-at-preserved g c = grind (arith, common_steps)

pub returns : goal.returns
returns g c = grind (arith, common_steps)
