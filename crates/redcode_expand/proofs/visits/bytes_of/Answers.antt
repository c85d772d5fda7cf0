use Rattle.std.proofs.{lemmas.{Grind.common_steps, List.drop_more}, Common.arith}
use Rattle.redcode_expand.proofs.visits.bytes_of.Goals as goal

pub loop-token-preserved : goal.loop-token-preserved
loop-token-preserved c = grind (arith, common_steps, drop_more)
