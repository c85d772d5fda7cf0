use Rattle.{redcode_lines.specs.Block.parsed, redcode_expand.specs.Walk.{walk_all, walk_begin}, redcode_expand.proofs.{PlainWalk.plain-equs, Shown.shown-found, Taken.finish-found}, std.proofs.Common.arith}
use Rattle.redcode_expand.proofs.expanded.expanded_lines.Goals as goal

pub returns-in-Ok-clause-expanded : goal.returns-in-Ok-clause-expanded
returns-in-Ok-clause-expanded g c =
    shown-found (walk_all c.args.settings.now (parsed c.args.lines.now) walk_begin) c.in-Ok.walk c.finish.result c.in-Ok.ensures.walk c.finish.ensures.expanded

pub returns-in-Ok-clause-taken : goal.returns-in-Ok-clause-taken
returns-in-Ok-clause-taken g c =
    omega (arith, c.finish.ensures.taken, c.walk_all.ensures.taken, finish-found (walk_all c.args.settings.now (parsed c.args.lines.now) walk_begin) c.in-Ok.walk c.in-Ok.ensures.walk)

pub returns-in-Ok-clause-plain : goal.returns-in-Ok-clause-plain
returns-in-Ok-clause-plain g c plain =
    omega (arith, c.finish.ensures.plain (plain-equs c.args.settings.now c.args.lines.now c.in-Ok.walk plain c.in-Ok.ensures.walk), c.walk_all.ensures.plain plain)
