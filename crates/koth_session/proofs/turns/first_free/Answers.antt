-- Slot by slot.
use Rattle.{std.proofs.Common.{◌∙◌, ap, arith, not}, koth_session.proofs.FirstDue.{free_here, taken_more}}
use Rattle.koth_session.proofs.turns.first_free.Goals as goal

pub returns-then-is_none : goal.returns-then-is_none
returns-then-is_none g c =
    free_here c.args.slots.now c.loop-number.number c.index-slots-number.result c.loop-number-test.true c.index-slots-number.is (c.is_none.ensures ∙ ap not c.if-is_none.true)
    c.loop-number.invariant

pub loop-number-preserved : goal.loop-number-preserved
loop-number-preserved g c =
    taken_more c.args.slots.now c.loop-number.number c.index-slots-number.result c.loop-number-test.true c.index-slots-number.is (c.is_none.ensures ∙ ap not c.if-is_none.false)
    c.loop-number.invariant

pub returns : goal.returns
returns g c = λ p below. c.loop-number.invariant p (omega (arith, below, c.loop-number-test.false))
