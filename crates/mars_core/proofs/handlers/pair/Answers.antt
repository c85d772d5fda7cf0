use Rattle.std.proofs.Common.{sym, ap, ◌∙◌}
use Rattle.{mars_words.specs.Words.mode_at, mars_core.specs.{Whole.operand, Code.operand_of}, mars_core.proofs.Executions.by_pair}
use Rattle.mars_core.proofs.handlers.pair.Goals as goal

pub returns-clause-value : goal.returns-clause-value
returns-clause-value g c =
    by_pair c.args.size c.args.pc g.row.MODES g.row.A_MODE g.row.B_MODE c.args.i.instr c.args.core.now c.operand_by-a.new.core c.operand_by-b.new.core
    (operand_of c.operand_by-a.result) (operand_of c.operand_by-b.result) c.requires.modes c.requires.parts
    (ap (operand c.args.size c.args.core.now c.args.pc (mode_at g.row.A_MODE)) (sym c.number.ensures.value) ∙ c.operand_by-a.ensures.value)
    (ap (operand c.args.size c.operand_by-a.new.core c.args.pc (mode_at g.row.B_MODE)) (sym c.number-2.ensures.value) ∙ c.operand_by-b.ensures.value)
