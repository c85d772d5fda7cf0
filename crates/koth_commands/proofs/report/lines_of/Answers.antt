-- One line more.
use Rattle.{std.proofs.Common.{ap, ◌∙◌, ◌++◌}, koth_commands.{specs.Report.TellsFound, proofs.Reports.next_line}}
use Rattle.koth_commands.proofs.report.lines_of.Goals as goal

pub loop-remark-preserved : goal.loop-remark-preserved
loop-remark-preserved g c =
    next_line (TellsFound c.args.form c.args.name.now c.args.source.now) g.R.Remark.found c.args.remarks.now c.loop-remark.remark-index
    c.remark-item.result c.loop-remark.text.items c.in_ok-line.line.items c.extend_from_slice.new.self.items c.loop-remark-test.true
    c.remark-item.is c.loop-remark.invariant c.in_ok-line.ensures
    (c.in_ok-extend_from_slice.ensures.items ∙ ap (λ t. c.loop-remark.text.items ++ t) c.as_slice.ensures.value)
