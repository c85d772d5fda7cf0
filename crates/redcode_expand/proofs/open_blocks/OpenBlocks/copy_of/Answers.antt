use Rattle.{std.proofs.{lemmas.Grind.common_steps, Common.arith}, redcode_expand.proofs.PlacedNames.counters-reverse}
use Rattle.redcode_expand.proofs.open_blocks.OpenBlocks.copy_of.Goals as goal

pub returns : goal.returns
returns g c = grind (arith, common_steps, counters-reverse)
