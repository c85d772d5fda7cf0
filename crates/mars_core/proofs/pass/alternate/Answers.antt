use Rattle.std.proofs.Common.{◌≡◌, ℕ, ◌+◌, ◌-◌, ◌*◌, true, false, refl, sym, subst, ap, ap₂, ◌∙◌, arith}
use Rattle.mars_core.specs.{Queue.Processes, Round.{after_turns, is_empty, IsQueue}, Passes.{round_at, round_after}, Window.held}
use Rattle.mars_core.proofs.{Turns.after_turns-none, Passes.{pass-first_ends, pass-second_ends, pass-made, still-made, last-made}}
use Rattle.mars_core.proofs.pass.alternate.Goals as goal

pub loop-left-init : goal.loop-left-init
loop-left-init g c =
    let own = held c.before-own.result c.places-own_places.result c.args.mover.now in
    let other = held c.before-other.result c.places-other_places.result c.args.others.now in
    let own_is : own ≡ c.args.mover.now = c.before-own.ensures.value c.places-own_places.result c.places-own_places.ensures in
    let other_is : other ≡ c.args.others.now = c.before-other.ensures.value c.places-other_places.result c.places-other_places.ensures in
    record {
      core = c.requires.core;
      own = c.before-own.ensures.window c.places-own_places.result c.places-own_places.ensures;
      other = c.before-other.ensures.window c.places-other_places.result c.places-other_places.ensures;
      mover = subst (λ (q : Processes). IsQueue c.args.size q.limit q.addresses) (sym own_is) c.requires.mover;
      others = subst (λ (q : Processes). IsQueue c.args.size q.limit q.addresses) (sym other_is) c.requires.others;
      mover_limit = refl;
      others_limit = refl;
      left = omega arith;
      after = λ m s used z l1 l2 bound.
          let none : used + (2 * c.args.most - 2 * c.args.most) ≡ used = omega arith in
          ap (λ (n : ℕ). after_turns (2 * c.args.most) (round_at m s c.args.core.now own.addresses other.addresses n)) none
          ∙ ap₂ (λ (q o : Processes). after_turns (2 * c.args.most) (round_at m s c.args.core.now q.addresses o.addresses used)) own_is other_is;
    }

pub loop-left-preserved : goal.loop-left-preserved
loop-left-preserved g c =
    let l = c.loop-left in
    let kept = l.invariant in
    let own = held l.own l.own_places l.mover in
    let other = held l.other l.other_places l.others in
    let t1 = c.turn_of in
    let t2 = c.turn_of-in-loop-left in
    let own' = held t1.new.window t1.new.places t1.new.queue in
    let other' = held t2.new.window t2.new.places t2.new.queue in
    let one = still-made c.args.size l.core t1.new.core own own' t1.result c.if-turn_of.false t1.ensures.turn in
    let two = still-made c.args.size t1.new.core t2.new.core other other' t2.result c.if-turn_of-2.false t2.ensures.turn in
    record {
      core = t2.ensures.core;
      own = t1.ensures.window;
      other = t2.ensures.window;
      mover = one.room;
      others = two.room;
      mover_limit = one.limit ∙ kept.mover_limit;
      others_limit = two.limit ∙ kept.others_limit;
      left = omega (arith, kept.left);
      after = λ m s used z l1 l2 bound.
          pass-made c.args.size s z m used c.args.most l.left l.core t1.new.core own own' other
          (l1 ∙ sym kept.mover_limit) refl refl bound c.loop-left-test.true kept.left one
          t2.new.core other' (l2 ∙ sym kept.others_limit) refl two
          ∙ kept.after m s used z l1 l2 bound;
    }

pub returns-clause-after : goal.returns-clause-after
returns-clause-after g c = λ m s used z l1 l2 bound.
    let l = c.loop-left in
    let none : 2 * l.left ≡ 0 = omega (arith, c.loop-left-test.false) in
    sym (l.invariant.after m s used z l1 l2 bound)
    ∙ (after_turns-none (2 * l.left) (λ (left : ℕ). round_at m s l.core (held l.own l.own_places l.mover).addresses (held l.other l.other_places l.others).addresses (used + (2 * c.args.most - left))) none
    ∙ ap₂ (λ (q o : Processes). round_at m s l.core q.addresses o.addresses (used + (2 * c.args.most - 0))) (sym c.close-2.ensures) (sym c.close-3.ensures))

pub returns-then-turn_of-clause-after : goal.returns-then-turn_of-clause-after
returns-then-turn_of-clause-after g c = λ m s used z l1 l2 bound.
    let l = c.loop-left in
    let kept = l.invariant in
    let own = held l.own l.own_places l.mover in
    let other = held l.other l.other_places l.others in
    let t1 = c.turn_of in
    let one = last-made c.args.size l.core t1.new.core own (held t1.new.window t1.new.places t1.new.queue) c.close.new.queue c.end.new.self t1.result
    c.if-turn_of.true c.close.ensures c.end.ensures.value t1.ensures.empty t1.ensures.turn in
    sym (kept.after m s used z l1 l2 bound)
    ∙ (pass-first_ends c.args.size s z m used c.args.most l.left l.core t1.new.core own c.end.new.self other
    (l1 ∙ sym kept.mover_limit) refl refl bound c.loop-left-test.true kept.left one.0 one.1
    ∙ ap (λ (o : Processes). round_after true m s t1.new.core c.end.new.self.addresses o.addresses (used + (2 * c.args.most - (2 * (l.left - 1) + 1)))) (sym c.close-then-turn_of.ensures))

pub returns-then-turn_of-2-clause-after : goal.returns-then-turn_of-2-clause-after
returns-then-turn_of-2-clause-after g c = λ m s used z l1 l2 bound.
    let l = c.loop-left in
    let kept = l.invariant in
    let own = held l.own l.own_places l.mover in
    let other = held l.other l.other_places l.others in
    let t1 = c.turn_of in
    let t2 = c.turn_of-in-loop-left in
    let own' = held t1.new.window t1.new.places t1.new.queue in
    let one = still-made c.args.size l.core t1.new.core own own' t1.result c.if-turn_of.false t1.ensures.turn in
    let two = last-made c.args.size t1.new.core t2.new.core other (held t2.new.window t2.new.places t2.new.queue) c.close-then-turn_of-2-2.new.queue c.end-then-turn_of-2.new.self t2.result
    c.if-turn_of-2.true c.close-then-turn_of-2-2.ensures c.end-then-turn_of-2.ensures.value t2.ensures.empty t2.ensures.turn in
    sym (kept.after m s used z l1 l2 bound)
    ∙ (pass-second_ends c.args.size s z m used c.args.most l.left l.core t1.new.core own own' other
    (l1 ∙ sym kept.mover_limit) refl refl bound c.loop-left-test.true kept.left one
    t2.new.core c.end-then-turn_of-2.new.self (l2 ∙ sym kept.others_limit) refl two.0 two.1
    ∙ ap (λ (q : Processes). round_after false m s t2.new.core q.addresses c.end-then-turn_of-2.new.self.addresses (used + (2 * c.args.most - 2 * (l.left - 1)))) (sym c.close-then-turn_of-2.ensures))

-- ---- what the sides keep

closed : (size : ℕ) (q q' : Processes) → q' ≡ q → IsQueue size q.limit q.addresses → IsQueue size q'.limit q'.addresses
closed size q q' is kept = subst (λ (q : Processes). IsQueue size q.limit q.addresses) (sym is) kept

pub returns-then-turn_of-clause-mover : goal.returns-then-turn_of-clause-mover
returns-then-turn_of-clause-mover g c =
    let l = c.loop-left in
    let t1 = c.turn_of in
    let one = last-made c.args.size l.core t1.new.core (held l.own l.own_places l.mover) (held t1.new.window t1.new.places t1.new.queue) c.close.new.queue c.end.new.self t1.result
    c.if-turn_of.true c.close.ensures c.end.ensures.value t1.ensures.empty t1.ensures.turn in
    one.0.room

pub returns-then-turn_of-clause-mover_limit : goal.returns-then-turn_of-clause-mover_limit
returns-then-turn_of-clause-mover_limit g c =
    let l = c.loop-left in
    let t1 = c.turn_of in
    let one = last-made c.args.size l.core t1.new.core (held l.own l.own_places l.mover) (held t1.new.window t1.new.places t1.new.queue) c.close.new.queue c.end.new.self t1.result
    c.if-turn_of.true c.close.ensures c.end.ensures.value t1.ensures.empty t1.ensures.turn in
    one.0.limit ∙ l.invariant.mover_limit

pub returns-then-turn_of-clause-others : goal.returns-then-turn_of-clause-others
returns-then-turn_of-clause-others g c = closed _ _ _ c.close-then-turn_of.ensures c.loop-left.invariant.others

pub returns-then-turn_of-clause-others_limit : goal.returns-then-turn_of-clause-others_limit
returns-then-turn_of-clause-others_limit g c = ap (λ (q : Processes). q.limit) c.close-then-turn_of.ensures ∙ c.loop-left.invariant.others_limit

pub returns-then-turn_of-2-clause-mover : goal.returns-then-turn_of-2-clause-mover
returns-then-turn_of-2-clause-mover g c =
    let l = c.loop-left in
    let t1 = c.turn_of in
    let one = still-made c.args.size l.core t1.new.core (held l.own l.own_places l.mover) (held t1.new.window t1.new.places t1.new.queue) t1.result c.if-turn_of.false t1.ensures.turn in
    closed _ _ _ c.close-then-turn_of-2.ensures one.room

pub returns-then-turn_of-2-clause-mover_limit : goal.returns-then-turn_of-2-clause-mover_limit
returns-then-turn_of-2-clause-mover_limit g c =
    let l = c.loop-left in
    let t1 = c.turn_of in
    let one = still-made c.args.size l.core t1.new.core (held l.own l.own_places l.mover) (held t1.new.window t1.new.places t1.new.queue) t1.result c.if-turn_of.false t1.ensures.turn in
    ap (λ (q : Processes). q.limit) c.close-then-turn_of-2.ensures ∙ (one.limit ∙ l.invariant.mover_limit)

pub returns-then-turn_of-2-clause-others : goal.returns-then-turn_of-2-clause-others
returns-then-turn_of-2-clause-others g c =
    let l = c.loop-left in
    let t1 = c.turn_of in
    let t2 = c.turn_of-in-loop-left in
    let two = last-made c.args.size t1.new.core t2.new.core (held l.other l.other_places l.others) (held t2.new.window t2.new.places t2.new.queue) c.close-then-turn_of-2-2.new.queue c.end-then-turn_of-2.new.self t2.result
    c.if-turn_of-2.true c.close-then-turn_of-2-2.ensures c.end-then-turn_of-2.ensures.value t2.ensures.empty t2.ensures.turn in
    two.0.room

pub returns-then-turn_of-2-clause-others_limit : goal.returns-then-turn_of-2-clause-others_limit
returns-then-turn_of-2-clause-others_limit g c =
    let l = c.loop-left in
    let t1 = c.turn_of in
    let t2 = c.turn_of-in-loop-left in
    let two = last-made c.args.size t1.new.core t2.new.core (held l.other l.other_places l.others) (held t2.new.window t2.new.places t2.new.queue) c.close-then-turn_of-2-2.new.queue c.end-then-turn_of-2.new.self t2.result
    c.if-turn_of-2.true c.close-then-turn_of-2-2.ensures c.end-then-turn_of-2.ensures.value t2.ensures.empty t2.ensures.turn in
    two.0.limit ∙ l.invariant.others_limit

pub returns-clause-mover : goal.returns-clause-mover
returns-clause-mover g c = closed _ _ _ c.close-2.ensures c.loop-left.invariant.mover

pub returns-clause-mover_limit : goal.returns-clause-mover_limit
returns-clause-mover_limit g c = ap (λ (q : Processes). q.limit) c.close-2.ensures ∙ c.loop-left.invariant.mover_limit

pub returns-clause-others : goal.returns-clause-others
returns-clause-others g c = closed _ _ _ c.close-3.ensures c.loop-left.invariant.others

pub returns-clause-others_limit : goal.returns-clause-others_limit
returns-clause-others_limit g c = ap (λ (q : Processes). q.limit) c.close-3.ensures ∙ c.loop-left.invariant.others_limit

pub end-requires : goal.end-requires
end-requires g c = ap (λ (q : Processes). is_empty q.addresses) c.close.ensures

pub end-requires-then-turn_of-2 : goal.end-requires-then-turn_of-2
end-requires-then-turn_of-2 g c = ap (λ (q : Processes). is_empty q.addresses) c.close-then-turn_of-2-2.ensures
