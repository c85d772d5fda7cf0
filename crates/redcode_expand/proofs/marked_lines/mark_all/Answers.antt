use Rattle.{std.proofs.{lemmas.Grind.common_steps, Common.{◌≡◌, ◌+◌, ◌-◌, ◌<◌, ℕ, length, sym, subst, arith}}, redcode_lines.specs.Views.line_read}
use Rattle.{redcode_expand.specs.Marks.{AreMarked, IsNextRof, IsSameCount}, redcode_expand.proofs.Marks.{marked-is, one-marked}}
use Rattle.redcode_expand.proofs.marked_lines.mark_all.Goals as goal

pub rof_from-rof-requires-clause-marked : goal.rof_from-rof-requires-clause-marked
rof_from-rof-requires-clause-marked g c =
    let ls = c.args.lines.now in
    let at = c.loop-at.at - 1 in
    let on : c.loop-at.at ≡ at + 1 = omega (arith, c.loop-at-test.true) in
    let some : at < length ls = omega (arith, c.loop-at-test.true, c.loop-at.invariant.2) in
    let behind = subst (λ (n : ℕ). AreMarked n ls c.loop-at.marks) on c.loop-at.invariant.0 in
    let next = subst (λ (n : ℕ). IsNextRof ls n c.loop-at.rof) on c.loop-at.invariant.1 in
    one-marked ls c.loop-at.marks at c.of.result some behind
    (marked-is ls at c.loop-at.rof c.line_at.result.now (line_read c.reading.result) c.of.result some c.line_at.ensures c.reading.ensures c.of.ensures.edge c.of.ensures.bare c.of.ensures.long c.of.ensures.joins
    c.of.ensures.rof next (subst (IsSameCount ls at) (sym c.of.ensures.count) c.count_of-count.ensures))

pub loop-at-preserved : goal.loop-at-preserved
loop-at-preserved g c = (
  rof_from-rof-requires-clause-marked g c.before,
  c.rof_from-rof.ensures,
  omega (arith, c.loop-at.invariant.2),
)

pub loop-at-init : goal.loop-at-init
loop-at-init g c = grind (arith, common_steps)

pub returns : goal.returns
returns g c = grind (arith, common_steps)
