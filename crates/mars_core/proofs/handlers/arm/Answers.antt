use Rattle.std.proofs.Common.{refl, sym, ap, ◌∙◌}
use Rattle.{mars_words.specs.Words.mode_at, mars_core.specs.{Whole.operand, Code.operand_of}, mars_core.proofs.Executions.{by_kind, parts_of_handler}}
use Rattle.mars_core.proofs.handlers.arm.Goals as goal

pub returns : goal.returns
returns g c = record {
  value =
      by_kind c.args.size c.args.pc g.row.OPERATION g.row.A_MODE g.row.B_MODE c.args.core.now c.operand_by-a.new.core c.operand_by-b.new.core c.args.i.instr
      (operand_of c.operand_by-a.result) (operand_of c.operand_by-b.result) _ c.requires.at.inside c.requires.at.instr
      (parts_of_handler c.args.i.instr g.row.HANDLER g.row.HANDLER c.requires.handler refl c.requires.some ∙ c.requires.kind)
      (ap (operand c.args.size c.args.core.now c.args.pc (mode_at g.row.A_MODE)) (sym c.number.ensures.value) ∙ c.operand_by-a.ensures.value)
      (ap (operand c.args.size c.operand_by-a.new.core c.args.pc (mode_at g.row.B_MODE)) (sym c.number-2.ensures.value) ∙ c.operand_by-b.ensures.value)
      c.effect_by.ensures.value;
  sound = c.effect_by.ensures.core;
  addresses = c.effect_by.ensures.addresses;
}
