use Rattle.{std.proofs.Common.{sym, ◌∙◌, arith}, redcode_expand.specs.Marks.mark_at, redcode_expand.proofs.Marks.{next-for, next-open, next-other, next-rof, word-for, word-rof}}
use Rattle.redcode_expand.proofs.marked_lines.rof_from.Goals as goal

pub returns-then-mark-lines : goal.returns-then-mark-lines
returns-then-mark-lines g c =
    let ls = c.args.lines.now in
    let here = c.requires.marked.marked c.args.at (omega arith) c.requires.some in
    let rof = (mark_at c.args.marks.now c.args.at).rof in
    let there = c.requires.marked.marked rof (omega (arith, here.rof.later)) c.if-mark-lines.true in
    next-for ls c.args.at rof _ c.requires.some (word-for _ (sym here.edge ∙ c.in-For.is)) here.rof c.if-mark-lines.true there.rof

pub returns-in-Rof : goal.returns-in-Rof
returns-in-Rof g c =
    let here = c.requires.marked.marked c.args.at (omega arith) c.requires.some in
    next-rof c.args.lines.now c.args.at c.requires.some (word-rof _ (sym here.edge ∙ c.in-Rof.is))

pub returns-else-mark-lines : goal.returns-else-mark-lines
returns-else-mark-lines g c =
    let here = c.requires.marked.marked c.args.at (omega arith) c.requires.some in
    next-open c.args.lines.now c.args.at _ c.requires.some (word-for _ (sym here.edge ∙ c.in-For.is)) here.rof c.if-mark-lines.false

pub returns-in-Neither : goal.returns-in-Neither
returns-in-Neither g c =
    let here = c.requires.marked.marked c.args.at (omega arith) c.requires.some in
    next-other c.args.lines.now c.args.at _ c.requires.some (sym here.edge ∙ c.in-Neither.is) here.rof
