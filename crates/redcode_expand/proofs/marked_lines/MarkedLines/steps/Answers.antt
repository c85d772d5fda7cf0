use Rattle.std.proofs.Common.{sym, ap, ◌∙◌}
use Rattle.redcode_expand.{specs.Marks.{has_join, line_in}, proofs.VisitSteps.{joins-shortened}}
use Rattle.redcode_expand.proofs.marked_lines.MarkedLines.steps.Goals as goal

pub visit_steps-own-requires : goal.visit_steps-own-requires
visit_steps-own-requires g c joins = ap has_join c.shortened.ensures ∙ joins-shortened (line_in c.args.self.now c.args.at) (sym c.mark-joins.ensures.joins ∙ joins)
