use Rattle.{std.proofs.{lemmas.Grind.common_steps, Common.{length, ap, arith}}, redcode_expand.{specs.Taken.lines_steps, proofs.Unchanged.line-kept}}
use Rattle.redcode_expand.proofs.expanded.replace_each.Goals as goal

pub loop-entry-preserved : goal.loop-entry-preserved
loop-entry-preserved g c =
    let steps = c.in-Some.ensures.steps in
    let gone = steps.1 in
    let was = c.loop-entry.invariant.1 in
    let short = ap length steps.0 in (
      line-kept c.args.names.now.equs _ _ c.loop-entry.lines.items c.push.new.self.items c.in-Some.entry c.in_ok-line.line _
          steps.0 c.in_ok-line.ensures.line c.in_ok-push.ensures.items c.loop-entry.invariant.0,
      omega arith,
      c.spend.ensures.low,
      omega (arith, c.spend.ensures.less, c.loop-entry.invariant.3),
      λ none. omega (arith, c.spend.ensures.less, c.spend.ensures.few, c.in_ok-line.ensures.plain none, c.loop-entry.invariant.4 none),
      omega (arith, c.spend.ensures.few, c.in_ok-line.ensures.work, ap (lines_steps c.args.names.now.equs) steps.0, c.loop-entry.invariant.5),
    )

pub returns-clause-lines : goal.returns-clause-lines
returns-clause-lines g c = grind (arith, common_steps)

pub returns-in_err-line-clause-lines : goal.returns-in_err-line-clause-lines
returns-in_err-line-clause-lines g c = grind (arith, common_steps)
