use Rattle.std.proofs.Common.{◌+◌, ◌-◌, ◌*◌, Bool, ap, ◌∙◌, arith}
use Rattle.mars_core.specs.{declared.round.Side.Side, Round.after_turns, Arena.round_in, Passes.{round_after, turns_left}}
use Rattle.mars_core.proofs.pass.passes.Goals as goal

pub returns-then-is_odd-clause-after : goal.returns-then-is_odd-clause-after
returns-then-is_odd-clause-after g c = λ s used z l1 l2 bound.
    let made = c.alternate-left in
    ap (λ (m : Side). after_turns (2 * c.args.most) (round_in s c.args.core.now c.args.first.now.addresses c.args.second.now.addresses m used)) c.in-First.is
    ∙ made.ensures.after Side.First s used z l1 l2 bound
    ∙ ap (λ (b : Bool). round_after b Side.First s made.new.core made.new.mover.addresses made.new.others.addresses (used + (2 * c.args.most - turns_left b made.result.0))) c.if-is_odd.true

pub returns-else-is_odd-clause-after : goal.returns-else-is_odd-clause-after
returns-else-is_odd-clause-after g c = λ s used z l1 l2 bound.
    let made = c.alternate-left in
    ap (λ (m : Side). after_turns (2 * c.args.most) (round_in s c.args.core.now c.args.first.now.addresses c.args.second.now.addresses m used)) c.in-First.is
    ∙ made.ensures.after Side.First s used z l1 l2 bound
    ∙ ap (λ (b : Bool). round_after b Side.First s made.new.core made.new.mover.addresses made.new.others.addresses (used + (2 * c.args.most - turns_left b made.result.0))) c.if-is_odd.false

pub returns-then-is_odd-2-clause-after : goal.returns-then-is_odd-2-clause-after
returns-then-is_odd-2-clause-after g c = λ s used z l1 l2 bound.
    let made = c.alternate-left-in-Second in
    ap (λ (m : Side). after_turns (2 * c.args.most) (round_in s c.args.core.now c.args.first.now.addresses c.args.second.now.addresses m used)) c.in-Second.is
    ∙ made.ensures.after Side.Second s used z l2 l1 bound
    ∙ ap (λ (b : Bool). round_after b Side.Second s made.new.core made.new.mover.addresses made.new.others.addresses (used + (2 * c.args.most - turns_left b made.result.0))) c.if-is_odd-2.true

pub returns-else-is_odd-2-clause-after : goal.returns-else-is_odd-2-clause-after
returns-else-is_odd-2-clause-after g c = λ s used z l1 l2 bound.
    let made = c.alternate-left-in-Second in
    ap (λ (m : Side). after_turns (2 * c.args.most) (round_in s c.args.core.now c.args.first.now.addresses c.args.second.now.addresses m used)) c.in-Second.is
    ∙ made.ensures.after Side.Second s used z l2 l1 bound
    ∙ ap (λ (b : Bool). round_after b Side.Second s made.new.core made.new.mover.addresses made.new.others.addresses (used + (2 * c.args.most - turns_left b made.result.0))) c.if-is_odd-2.false

pub returns-then-is_odd-clause-left : goal.returns-then-is_odd-clause-left
returns-then-is_odd-clause-left g c = omega (arith, c.alternate-left.ensures.odd c.if-is_odd.true, c.alternate-left.ensures.left)

pub returns-then-is_odd-2-clause-left : goal.returns-then-is_odd-2-clause-left
returns-then-is_odd-2-clause-left g c = omega (arith, c.alternate-left-in-Second.ensures.odd c.if-is_odd-2.true, c.alternate-left-in-Second.ensures.left)

pub alternate-left-requires : goal.alternate-left-requires
alternate-left-requires g c = record { wide = c.requires.wide; core = c.requires.core; mover = c.requires.first; others = c.requires.second; mover_lives = c.requires.first_lives; others_live = c.requires.second_lives; most = c.requires.most }

pub alternate-left-requires-in-Second : goal.alternate-left-requires-in-Second
alternate-left-requires-in-Second g c = record { wide = c.requires.wide; core = c.requires.core; mover = c.requires.second; others = c.requires.first; mover_lives = c.requires.second_lives; others_live = c.requires.first_lives; most = c.requires.most }

pub returns-else-is_odd-clause-left : goal.returns-else-is_odd-clause-left
returns-else-is_odd-clause-left g c = omega (arith, c.alternate-left.ensures.left)

pub returns-else-is_odd-2-clause-left : goal.returns-else-is_odd-2-clause-left
returns-else-is_odd-2-clause-left g c = omega (arith, c.alternate-left-in-Second.ensures.left)

pub overflow_mul-result : goal.overflow_mul-result
overflow_mul-result g c = omega (arith, c.alternate-left.ensures.left, c.requires.most)

pub overflow_add-result : goal.overflow_add-result
overflow_add-result g c = omega (arith, c.alternate-left.ensures.left, c.requires.most)

pub overflow_mul-result-else-is_odd : goal.overflow_mul-result-else-is_odd
overflow_mul-result-else-is_odd g c = omega (arith, c.alternate-left.ensures.left, c.requires.most)

pub overflow_mul-result-then-is_odd-2 : goal.overflow_mul-result-then-is_odd-2
overflow_mul-result-then-is_odd-2 g c = omega (arith, c.alternate-left-in-Second.ensures.left, c.requires.most)

pub overflow_add-result-then-is_odd-2 : goal.overflow_add-result-then-is_odd-2
overflow_add-result-then-is_odd-2 g c = omega (arith, c.alternate-left-in-Second.ensures.left, c.requires.most)

pub overflow_mul-result-else-is_odd-2 : goal.overflow_mul-result-else-is_odd-2
overflow_mul-result-else-is_odd-2 g c = omega (arith, c.alternate-left-in-Second.ensures.left, c.requires.most)
