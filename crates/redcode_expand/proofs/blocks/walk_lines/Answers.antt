use Rattle.{std.proofs.{lemmas.Grind.common_steps, Common.{arith, ℕ, ◌<◌, ◌≤◌, ap, ◌∙◌, length, subst, sym}}, redcode_expand.specs.{Walk.WalkState, Rest.steps_left, Budget.{most_lines, steps_of}, Steps.{steps_at, visit_steps}}}
use Rattle.redcode_expand.proofs.{Budget.{steps-begin, steps-next, steps-within}, GoingOn.{rest-ended, rest-done}, GoingSteps.at-least, PlainWalk.{plain-at, spent-most, spent-plain}}
use Rattle.redcode_expand.proofs.blocks.walk_lines.Goals as goal

pub loop-at-init : goal.loop-at-init
loop-at-init g c = (
  grind (arith, common_steps),
  grind (arith, common_steps),
  grind (arith, common_steps),
  steps-begin c.args.most c.args.steps.now c.args.lines.now c.args.blocks.now c.args.walk.now c.requires.none c.requires.few,
  omega (arith, ap (λ (st : WalkState). st.counted) c.requires.begin),
  λ plain. (c.requires.none, omega arith),
  rw (c.requires.none, c.requires.begin) (omega arith),
)

pub loop-at-preserved : goal.loop-at-preserved
loop-at-preserved g c =
    let was = c.loop-at.invariant in
    let goes = c.in_ok-at.ensures.goes_on in
    let visit = subst (λ (n : ℕ). c.steps.result ≤ steps_at (visit_steps n) c.args.lines.now c.loop-at.at) c.count.ensures c.steps.ensures.most in
    let some : 0 < c.loop-at.steps = omega (arith, c.in_ok-spend.ensures.some, c.spend.ensures.less) in
    let spent = c.in_ok-spend.ensures.spent c.steps.ensures.some (c.floor-floor.ensures.less c.requires.some some) in (
      goes.rest ∙ was.0,
      goes.opened,
      c.in_ok-at.ensures.kept,
      steps-next c.args.most (steps_left c.args.lines.now c.step.new.blocks c.in_ok-at.at c.step.new.walk) (steps_left c.args.lines.now c.loop-at.blocks c.loop-at.at c.loop-at.walk)
          (steps_of c.args.most most_lines) c.args.steps.now c.loop-at.steps c.spend-in-loop-at.new.self goes.less was.3
          (omega (arith, c.floor-floor.ensures.few, c.spend-in-loop-at.ensures.low)),
      omega (arith, spent, c.spend-in-loop-at.ensures.less, c.in_ok-at.ensures.counted, was.4),
      λ plain.
          let some : c.loop-at.at < length c.args.lines.now = omega (arith, c.loop-at-test.true, c.len.ensures) in
          let word = plain-at c.args.lines.now c.loop-at.at plain some in
          let none = (was.5 plain).0 in
          let next = c.in_ok-at.ensures.plain word none in (
            next.0,
            rw next.1 (spent-plain c.args.lines.now c.loop-at.at c.count.result c.steps.result c.args.steps.now c.loop-at.steps c.spend.new.self c.spend-in-loop-at.new.self plain some
                (c.count.ensures ∙ ap length none) c.steps.ensures.most (was.5 plain).1 c.spend.ensures.few (omega (arith, c.spend-in-loop-at.ensures.few, next.2))),
          ),
      omega (arith, c.in_ok-at.ensures.taken, visit, c.spend.ensures.few, c.spend-in-loop-at.ensures.few, was.6),
    )

pub returns-in_err-spend-clause-steps : goal.returns-in_err-spend-clause-steps
returns-in_err-spend-clause-steps g c =
    steps-within c.args.most (steps_left c.args.lines.now c.loop-at.blocks c.loop-at.at c.loop-at.walk) (steps_of c.args.most most_lines) c.args.steps.now c.loop-at.steps c.spend.new.self
    (omega (arith, c.loop-at-test.true, c.len.ensures)) c.loop-at.invariant.3 (omega (arith, c.floor-floor.ensures.few, c.spend.ensures.low))

pub returns-in_err-at-clause-steps : goal.returns-in_err-at-clause-steps
returns-in_err-at-clause-steps g c =
    steps-within c.args.most (steps_left c.args.lines.now c.loop-at.blocks c.loop-at.at c.loop-at.walk) (steps_of c.args.most most_lines) c.args.steps.now c.loop-at.steps c.spend.new.self
    (omega (arith, c.loop-at-test.true, c.len.ensures)) c.loop-at.invariant.3 (omega (arith, c.floor-floor.ensures.few, c.spend.ensures.low))

pub returns-in_err-spend-2-clause-steps : goal.returns-in_err-spend-2-clause-steps
returns-in_err-spend-2-clause-steps g c =
    steps-within c.args.most (steps_left c.args.lines.now c.loop-at.blocks c.loop-at.at c.loop-at.walk) (steps_of c.args.most most_lines) c.args.steps.now c.loop-at.steps c.spend-in-loop-at.new.self
    (omega (arith, c.loop-at-test.true, c.len.ensures)) c.loop-at.invariant.3 (omega (arith, c.floor-floor.ensures.few, c.spend-in-loop-at.ensures.low))

pub returns-in_err-spend-clause-plain : goal.returns-in_err-spend-clause-plain
returns-in_err-spend-clause-plain g c plain =
    let was = c.loop-at.invariant.5 plain in
    spent-most c.args.lines.now c.loop-at.at c.count.result c.steps.result c.args.steps.now c.loop-at.steps c.spend.new.self c.spend.new.self plain
    (omega (arith, c.loop-at-test.true, c.len.ensures)) (c.count.ensures ∙ ap length was.0) c.steps.ensures.most was.1 c.spend.ensures.few (omega arith)

pub returns-in_err-at-clause-plain : goal.returns-in_err-at-clause-plain
returns-in_err-at-clause-plain g c plain =
    let was = c.loop-at.invariant.5 plain in
    spent-most c.args.lines.now c.loop-at.at c.count.result c.steps.result c.args.steps.now c.loop-at.steps c.spend.new.self c.spend.new.self plain
    (omega (arith, c.loop-at-test.true, c.len.ensures)) (c.count.ensures ∙ ap length was.0) c.steps.ensures.most was.1 c.spend.ensures.few (omega arith)

pub returns-in_err-spend-2-clause-plain : goal.returns-in_err-spend-2-clause-plain
returns-in_err-spend-2-clause-plain g c plain =
    let was = c.loop-at.invariant.5 plain in
    let some : c.loop-at.at < length c.args.lines.now = omega (arith, c.loop-at-test.true, c.len.ensures) in
    let next = c.in_ok-at.ensures.plain (plain-at c.args.lines.now c.loop-at.at plain some) was.0 in
    spent-most c.args.lines.now c.loop-at.at c.count.result c.steps.result c.args.steps.now c.loop-at.steps c.spend.new.self c.spend-in-loop-at.new.self plain
    some (c.count.ensures ∙ ap length was.0) c.steps.ensures.most was.1 c.spend.ensures.few (omega (arith, c.spend-in-loop-at.ensures.few, next.2))

pub returns-in_err-spend-clause-taken : goal.returns-in_err-spend-clause-taken
returns-in_err-spend-clause-taken g c =
    let visit = subst (λ (n : ℕ). c.steps.result ≤ steps_at (visit_steps n) c.args.lines.now c.loop-at.at) c.count.ensures c.steps.ensures.most in
    omega (
      arith,
      visit,
      c.spend.ensures.few,
      c.loop-at.invariant.6,
      at-least c.args.settings.now c.args.lines.now c.loop-at.blocks c.loop-at.at c.loop-at.walk (omega (arith, c.loop-at-test.true, c.len.ensures))
          (sym (ap (λ (st : WalkState). st.ended) c.walk.view_is) ∙ c.if-not-walk.true),
    )

pub returns-in_err-at-clause-taken : goal.returns-in_err-at-clause-taken
returns-in_err-at-clause-taken g c =
    let visit = subst (λ (n : ℕ). c.steps.result ≤ steps_at (visit_steps n) c.args.lines.now c.loop-at.at) c.count.ensures c.steps.ensures.most in
    omega (
      arith,
      visit,
      c.spend.ensures.few,
      c.loop-at.invariant.6,
      at-least c.args.settings.now c.args.lines.now c.loop-at.blocks c.loop-at.at c.loop-at.walk (omega (arith, c.loop-at-test.true, c.len.ensures))
          (sym (ap (λ (st : WalkState). st.ended) c.walk.view_is) ∙ c.if-not-walk.true),
    )

pub returns-in_err-spend-2-clause-taken : goal.returns-in_err-spend-2-clause-taken
returns-in_err-spend-2-clause-taken g c =
    let visit = subst (λ (n : ℕ). c.steps.result ≤ steps_at (visit_steps n) c.args.lines.now c.loop-at.at) c.count.ensures c.steps.ensures.most in
    omega (arith, c.in_ok-at.ensures.taken, visit, c.spend.ensures.few, c.spend-in-loop-at.ensures.few, c.loop-at.invariant.6)

pub returns-else-not-walk : goal.returns-else-not-walk
returns-else-not-walk g c = grind (arith, common_steps, rest-ended)

pub returns-after-loop-at : goal.returns-after-loop-at
returns-after-loop-at g c = grind (arith, common_steps, rest-done)
