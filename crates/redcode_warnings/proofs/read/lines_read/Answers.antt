use Rattle.std.proofs.{Common.{arith}, lemmas.Grind.{common_steps}}
use Rattle.redcode_warnings.proofs.read.lines_read.Goals as goal

pub loop-rest-preserved : goal.loop-rest-preserved
loop-rest-preserved g c = record { read = grind (arith, common_steps); few = grind (arith, common_steps) }
