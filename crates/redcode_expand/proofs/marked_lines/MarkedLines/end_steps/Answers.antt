use Rattle.std.proofs.Common.{arith, sym, ap, ◌∙◌}
use Rattle.{redcode_expand.specs.{Marks.{has_join}, Steps.{read_steps, visit_steps}}}
use Rattle.redcode_expand.proofs.VisitSteps.{bare-end, full-end, no-end}
use Rattle.redcode_expand.proofs.marked_lines.MarkedLines.end_steps.Goals as goal

pub returns-then-rof-len-clause-least : goal.returns-then-rof-len-clause-least
returns-then-rof-len-clause-least g c few = omega (arith, no-end read_steps c.args.self.now c.args.at c.mark-rof.result.rof c.mark-rof.ensures.rof (omega (arith, c.if-rof-len.true, c.len.ensures)))

pub returns-then-end-clause-least : goal.returns-then-end-clause-least
returns-then-end-clause-least g c few =
    omega (arith, bare-end read_steps c.args.self.now c.args.at c.mark-rof.result.rof c.mark-rof.ensures.rof (omega (arith, c.if-rof-len.false, c.len.ensures)) (sym c.mark-end.ensures.bare ∙ c.if-end.true))

pub visit_steps-requires : goal.visit_steps-requires
visit_steps-requires g c joins = ap has_join c.reading.ensures.line ∙ sym c.mark-end.ensures.joins ∙ joins

pub returns-clause-most : goal.returns-clause-most
returns-clause-most g c =
    let visit = visit_steps c.args.blocks in
    let is = full-end visit c.args.self.now c.args.at c.mark-rof.result.rof c.mark-rof.ensures.rof (omega (arith, c.if-rof-len.false, c.len.ensures)) (sym c.mark-end.ensures.bare ∙ c.if-end.false) in
    omega (arith, is, ap visit c.reading.ensures.line, c.visit_steps.ensures.most)

pub returns-clause-least : goal.returns-clause-least
returns-clause-least g c few =
    let is = full-end read_steps c.args.self.now c.args.at c.mark-rof.result.rof c.mark-rof.ensures.rof (omega (arith, c.if-rof-len.false, c.len.ensures)) (sym c.mark-end.ensures.bare ∙ c.if-end.false) in
    let same = ap read_steps c.reading.ensures.line in
    omega (arith, is, same, few, c.visit_steps.ensures.least (omega (arith, is, same, few)))
