use Rattle.std.proofs.{Common.arith, lemmas.Grind.common_steps}
use Rattle.mars_operations.proofs.queue.Queue.split.Goals as goal

pub invariant_of-self : goal.invariant_of-self
invariant_of-self g c = grind (arith, common_steps)

pub returns-clause-value : goal.returns-clause-value
returns-clause-value g c = grind (arith, common_steps)
