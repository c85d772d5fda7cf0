use Rattle.{std.proofs.Common.{sym, arith}, redcode_lines.proofs.ShownTexts.shown-acted}
use Rattle.redcode_lines.proofs.shown.append_shown.Goals as goal

pub loop-rest-preserved : goal.loop-rest-preserved
loop-rest-preserved g c =
    let width = c.acted_width-width in
    let acted = shown-acted c.loop-rest.shown.items _ c.loop-rest.rest.now width.result (sym width.ensures.width) (omega (arith, c.if-width-eq0.false)) width.ensures.within c.loop-rest.invariant in
    rw (c.in_ok-push-2.ensures.items, c.behind-rest.ensures.behind) acted
