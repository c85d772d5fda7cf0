use Rattle.{mars_core.specs.Code.operand_of, mars_core.proofs.Executions.by_whole}
use Rattle.mars_core.proofs.handlers.general.Goals as goal

pub returns : goal.returns
returns g c = record {
  value =
      by_whole c.args.size c.args.pc c.args.core.now c.by_modes-a.new.core c.args.i.instr (operand_of c.by_modes-a.result.0) (operand_of c.by_modes-a.result.1) _
      c.requires.at.inside c.requires.at.instr c.by_modes-a.ensures.value c.by_operation.ensures.value;
  sound = c.by_operation.ensures.core;
  addresses = c.by_operation.ensures.addresses;
}
