use Rattle.std.proofs.Common.{ap, sym, arith, List, length, subst, ◌≤◌, ◌∙◌}
use Rattle.{redcode_lines.specs.{Block.parsed, Line.SourceLine}, redcode_names.specs.Gives.Fails, redcode_expand.specs.{Cut.with_cut, Walk.{walk_all, walk_begin}, Steps.{are_plain, reads}, Taken.walked_steps}, redcode_expand.proofs.Latest.{kept-none}}
use Rattle.redcode_expand.proofs.blocks.walk_all.Goals as goal

pub walk_lines-requires-clause-kept : goal.walk_lines-requires-clause-kept
walk_lines-requires-clause-kept g c =
    kept-none c.args.settings.now c.in_ok-lines.lines c.in_ok-counts.counts (length c.args.lines.now) (ap length (sym c.in_ok-lines.ensures)) c.in_ok-counts.ensures

pub walk_lines-requires-clause-few : goal.walk_lines-requires-clause-few
walk_lines-requires-clause-few g c = subst (λ (ls : List SourceLine). length ls ≤ 65536) (sym c.in_ok-lines.ensures) c.requires.few

pub returns-clause-walk : goal.returns-clause-walk
returns-clause-walk g c =
    subst (λ (ls : List SourceLine). Fails c.in-Err.fault (with_cut (walk_all c.args.settings.now (parsed ls) walk_begin))) c.in_ok-lines.ensures c.in-Err.ensures.walk

pub returns-in-Ok-clause-plain : goal.returns-in-Ok-clause-plain
returns-in-Ok-clause-plain g c plain = omega (arith, c.walk_lines.ensures.plain (ap are_plain c.in_ok-lines.ensures ∙ plain), ap reads c.in_ok-lines.ensures)

pub returns-in-Ok-clause-taken : goal.returns-in-Ok-clause-taken
returns-in-Ok-clause-taken g c = omega (arith, c.walk_lines.ensures.taken, ap (λ (ls : List SourceLine). walked_steps c.args.settings.now (parsed ls)) c.in_ok-lines.ensures)

pub returns-clause-taken : goal.returns-clause-taken
returns-clause-taken g c = omega (arith, c.walk_lines.ensures.taken, ap (λ (ls : List SourceLine). walked_steps c.args.settings.now (parsed ls)) c.in_ok-lines.ensures)

pub returns-clause-plain : goal.returns-clause-plain
returns-clause-plain g c plain = omega (arith, c.walk_lines.ensures.plain (ap are_plain c.in_ok-lines.ensures ∙ plain), ap reads c.in_ok-lines.ensures)
