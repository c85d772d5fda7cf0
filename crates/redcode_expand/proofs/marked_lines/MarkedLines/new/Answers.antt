use Rattle.std.proofs.{lemmas.Grind.common_steps, Common.arith}
use Rattle.redcode_expand.proofs.marked_lines.MarkedLines.new.Goals as goal

pub mark_all-requires : goal.mark_all-requires
mark_all-requires g c = grind (arith, common_steps)

pub invariant_of-result : goal.invariant_of-result
invariant_of-result g c = grind (arith, common_steps)
