use Rattle.std.proofs.Common.{sym, ap₂, ◌∙◌}
use Rattle.war_types.specs.{declared.instr.Op.Op, declared.instr.Modifier.Modifier}
use Rattle.mars_core.specs.{Effect.effect, Code.operand_of}
use Rattle.mars_core.proofs.Executions.{by_operands}
use Rattle.mars_core.proofs.execution.execute.Goals as goal

pub returns-clause-value : goal.returns-clause-value
returns-clause-value g c = by_operands _ _ _ _ _ _ _ _ _ c.requires.size c.cell-i.ensures.value c.operands-a.ensures.value
    (ap₂ (λ (op : Op) (m : Modifier). effect c.args.size c.args.pc op m (operand_of c.operands-a.result.0) (operand_of c.operands-a.result.1) c.operands-a.new.core) (sym c.op.ensures) (sym c.modifier.ensures) ∙ c.effect.ensures.value)
