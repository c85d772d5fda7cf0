use Rattle.{std.proofs.{lemmas.Grind.common_steps, Common.arith}, redcode_names.proofs.Cut.equ-added}
use Rattle.redcode_names.proofs.names.Names.equate.Goals as goal

pub returns : goal.returns
returns g c = grind (arith, common_steps, equ-added)
