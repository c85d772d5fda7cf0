-- Slot by slot.
use Rattle.{std.proofs.Common.{◌∙◌, arith, sym}, koth_session.proofs.FirstDue.{due_here, none_more}}
use Rattle.koth_session.proofs.turns.first_due.Goals as goal

pub returns-then-may_serve : goal.returns-then-may_serve
returns-then-may_serve g c =
    due_here c.args.first c.args.busy c.args.slots.now c.args.from c.args.to c.loop-number.number c.index-slots-number.result c.loop-number.auto.number c.loop-number-test.true
    (omega (arith, c.requires, c.loop-number-test.true)) c.index-slots-number.is (sym c.may_serve.ensures ∙ c.if-may_serve.true) c.loop-number.invariant

pub loop-number-preserved : goal.loop-number-preserved
loop-number-preserved g c =
    none_more c.args.first c.args.busy c.args.slots.now c.args.from c.loop-number.number c.index-slots-number.result (omega (arith, c.requires, c.loop-number-test.true)) c.index-slots-number.is
    (sym c.may_serve.ensures ∙ c.if-may_serve.false) c.loop-number.invariant

pub returns : goal.returns
returns g c = λ p above below. c.loop-number.invariant p above (omega (arith, below, c.loop-number-test.false))
