use Rattle.std.proofs.{lemmas.Grind.common_steps, Common.arith}
use Rattle.redcode_copies.proofs.copying.append_kept.Goals as goal

pub loop-joined-preserved : goal.loop-joined-preserved
loop-joined-preserved g c = grind (arith, common_steps)

pub returns : goal.returns
returns g c = grind (arith, common_steps)
