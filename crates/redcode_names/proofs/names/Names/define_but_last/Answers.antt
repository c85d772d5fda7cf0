use Rattle.std.proofs.{lemmas.Grind.common_steps, Common.arith}
use Rattle.redcode_names.proofs.names.Names.define_but_last.Goals as goal

pub returns : goal.returns
returns g c = grind (arith, common_steps)
