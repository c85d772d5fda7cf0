use Rattle.std.proofs.Common.{sym, ap₂, ◌∙◌}
use Rattle.war_types.specs.{declared.instr.Op.Op, declared.instr.Modifier.Modifier}
use Rattle.mars_core.specs.{Effect.effect, Code.operand_of}
use Rattle.mars_core.proofs.handlers.effect_of_any.Goals as goal

pub returns-clause-value : goal.returns-clause-value
returns-clause-value g c =
    ap₂ (λ (op : Op) (m : Modifier). effect c.args.size c.args.pc op m (operand_of c.args.a) (operand_of c.args.b) c.args.core.now) (sym c.op.ensures) (sym c.modifier.ensures)
    ∙ c.effect.ensures.value
