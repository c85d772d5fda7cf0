use Rattle.{mars_core.specs.Code.operand_of, mars_core.proofs.Executions.effect-by}
use Rattle.mars_core.proofs.handlers.effect_of.Goals as goal

pub returns-clause-value : goal.returns-clause-value
returns-clause-value g c =
    effect-by c.args.size c.args.pc g.row.OPERATION c.args.i.instr (operand_of c.args.a) (operand_of c.args.b) c.args.core.now _ c.requires.operation c.effect_by.ensures.value
