use Rattle.std.proofs.{Common.arith, lemmas.Grind.common_steps}
use Rattle.mars_operations.proofs.queue.Queue.follow.Goals as goal

pub invariant_of-self-in-Some : goal.invariant_of-self-in-Some
invariant_of-self-in-Some g c = grind (arith, common_steps)

pub invariant_of-self : goal.invariant_of-self
invariant_of-self g c = grind (arith, common_steps)

pub returns-in-Some-clause-value : goal.returns-in-Some-clause-value
returns-in-Some-clause-value g c = grind (arith, common_steps)
