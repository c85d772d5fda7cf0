use Rattle.{std.proofs.{lemmas.Grind.common_steps, Common.arith}, redcode_expand.proofs.PlacedNames.both-behind}
use Rattle.redcode_expand.proofs.open_blocks.OpenBlocks.push.Goals as goal

pub invariant_of-self-2 : goal.invariant_of-self-2
invariant_of-self-2 g c = grind (arith, common_steps, both-behind)
