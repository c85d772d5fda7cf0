use Rattle.{std.proofs.Common.{◌≡◌, ℕ, ◌+◌, ◌-◌, true, false, Some, ap, sym, ◌∙◌, arith, ◌<◌, subst}, mars_core.specs.declared.round.Side.Side, mars_operations.specs.declared.effect.Queued.Queued}
use Rattle.mars_core.specs.{Queue.{front, queued}, Round.{Round, after_turns, turned, turned_by}, Arena.round_in, Code.{addresses, other}}
use Rattle.mars_core.proofs.Turns.{Moved, queue_at, without_front, first_moves, second_moves, first_front, second_front, front_inside, queued_nothing, queues_kept, limits_kept, both_live}
use Rattle.mars_core.proofs.Turns.{over-empty, turned-made, after_turns-made, after_turns-none, after_turns-over, same_round}
use Rattle.mars_core.proofs.turn.turns.Given.{Over}
use Rattle.mars_core.proofs.turn.turns.Goals.{in-First, in-Second, in-Nothing+else-is_empty, in-First-to_move, in-Second-to_move, in-One+in-First-to_move-2, in-One+in-Second-to_move-2}
use Rattle.mars_core.proofs.turn.turns.Goals.{in-Two+in-First-to_move-3, in-Two+in-Second-to_move-3}
use Rattle.mars_core.proofs.turn.turns.Goals as goal

pub loop-left-preserved : goal.loop-left-preserved
loop-left-preserved g c =
    let m = c.loop-left.to_move in
    let first = c.loop-left.first in
    let second = c.loop-left.second in
    let more = addresses c.execute-queued.result in
    let kept = c.loop-left.invariant in
    let moved : Moved m more first second c.match-queued.first c.match-queued.second false =
    elim c.match-queued.branch [
      | in-Nothing+else-is_empty w ↦
          (let none = sym (ap addresses w.in-Nothing.is) in
          elim w.match-to_move-2.branch [
            | in-First-to_move w' ↦
                first_moves m more first second c.match-queued.first c.match-queued.second false w'.in-First-to_move.is
                (w.first-is ∙ (w'.first-is ∙ (queued_nothing first w'.end-is_empty.new.self kept.first.room w'.end-is_empty.ensures.value ∙ ap (queued (without_front first)) none)))
                (w.second-is ∙ w'.second-is)
                (cc)
            | in-Second-to_move w' ↦
                second_moves m more first second c.match-queued.first c.match-queued.second false w'.in-Second-to_move.is
                (w.second-is ∙ (w'.second-is ∙ (queued_nothing second w'.end-is_empty-in-Second-to_move.new.self kept.second.room w'.end-is_empty-in-Second-to_move.ensures.value ∙ ap (queued (without_front second)) none)))
                (w.first-is ∙ w'.first-is)
                (cc)
          ])
      | in-One+in-First-to_move-2 w ↦
          first_moves m more first second c.match-queued.first c.match-queued.second false w.in-First-to_move-2.is
          (w.first-is ∙ (w.follow.ensures.value ∙ ap (queued (without_front first)) (sym (ap addresses w.in-One.is)))) w.second-is
          (cc)
      | in-One+in-Second-to_move-2 w ↦
          second_moves m more first second c.match-queued.first c.match-queued.second false w.in-Second-to_move-2.is
          (w.second-is ∙ (w.follow-in-Second-to_move-2.ensures.value ∙ ap (queued (without_front second)) (sym (ap addresses w.in-One.is)))) w.first-is
          (cc)
      | in-Two+in-First-to_move-3 w ↦
          first_moves m more first second c.match-queued.first c.match-queued.second false w.in-First-to_move-3.is
          (w.first-is ∙ (w.split.ensures.value ∙ ap (queued (without_front first)) (sym (ap addresses w.in-Two.is)))) w.second-is
          (cc)
      | in-Two+in-Second-to_move-3 w ↦
          second_moves m more first second c.match-queued.first c.match-queued.second false w.in-Second-to_move-3.is
          (w.second-is ∙ (w.split-in-Second-to_move-3.ensures.value ∙ ap (queued (without_front second)) (sym (ap addresses w.in-Two.is)))) w.first-is
          (cc)
    ] in
    let at_front : front (queue_at m first second).addresses ≡ Some c.match-to_move.pc =
    elim c.match-to_move.branch [
      | in-First w ↦ first_front m first second c.match-to_move.pc _ w.in-First.is w.front-pc.ensures w.pc-is
      | in-Second w ↦ second_front m first second c.match-to_move.pc _ w.in-Second.is w.front-pc-in-Second.ensures w.pc-is
    ] in
    let last : c.match-queued.last ≡ turned_by more =
    elim c.match-queued.branch [
      | in-Nothing+else-is_empty w ↦ w.last-is ∙ sym (ap (λ (q : Queued). turned_by (addresses q)) w.in-Nothing.is)
      | in-One+in-First-to_move-2 w ↦ w.last-is ∙ sym (ap (λ (q : Queued). turned_by (addresses q)) w.in-One.is)
      | in-One+in-Second-to_move-2 w ↦ w.last-is ∙ sym (ap (λ (q : Queued). turned_by (addresses q)) w.in-One.is)
      | in-Two+in-First-to_move-3 w ↦ w.last-is ∙ sym (ap (λ (q : Queued). turned_by (addresses q)) w.in-Two.is)
      | in-Two+in-Second-to_move-3 w ↦ w.last-is ∙ sym (ap (λ (q : Queued). turned_by (addresses q)) w.in-Two.is)
    ] in
    let queues = queues_kept c.args.size m more first second c.match-queued.first c.match-queued.second kept.first kept.second c.execute-queued.ensures.addresses moved.0 in
    let limits = limits_kept m more first second c.match-queued.first c.match-queued.second moved.0 in
    let lives = both_live m more first second c.match-queued.first c.match-queued.second kept.first_lives kept.second_lives moved.0 moved.1 in
    record {
      core = c.execute-queued.ensures.core;
      first = queues.0;
      second = queues.1;
      first_limit = limits.0 ∙ kept.first_limit;
      second_limit = limits.1 ∙ kept.second_limit;
      first_lives = lives.0;
      second_lives = lives.1;
      left = omega (arith, kept.left);
      start = λ e. absurd (omega (arith, kept.left, c.loop-left-test.true, e));
      after = λ s used z l1 l2 bound.
          ap (λ (next : Side). after_turns (c.loop-left.left - 1) (round_in s c.execute-queued.new.core c.match-queued.first.addresses c.match-queued.second.addresses next (used + (c.args.most - (c.loop-left.left - 1))))) c.other-to_move.ensures
          ∙ (after_turns-made m s (g.L.Limits.reach c.args.limits) c.match-to_move.pc c.loop-left.core c.execute-queued.new.core first second c.match-queued.first c.match-queued.second more
          z (l1 ∙ sym kept.first_limit) (l2 ∙ sym kept.second_limit) kept.first_lives kept.second_lives at_front c.execute-queued.ensures.value moved.0
          used c.args.most c.loop-left.left bound c.loop-left-test.true kept.left
          ∙ kept.after s used z l1 l2 bound);
      last = λ s used z l1 l2 bound one none.
          let first_one : c.loop-left.left ≡ c.args.most = omega (arith, kept.left, c.loop-left-test.true, one, none) in
          let same = kept.start first_one in
          last
          ∙ (turned-made m s (g.L.Limits.reach c.args.limits) c.match-to_move.pc c.loop-left.core c.execute-queued.new.core first second c.match-queued.first c.match-queued.second more
          z (l1 ∙ sym kept.first_limit) (l2 ∙ sym kept.second_limit) kept.first_lives kept.second_lives at_front c.execute-queued.ensures.value moved.0
          used (omega (arith, bound, one))
          ∙ ap turned (same_round s used c.loop-left.core c.args.core.now first c.args.first.now second c.args.second.now m c.args.to_move same.0 same.1 same.2 same.3));
    }

-- a process ends that was the last one of its side
moved-at-end : (g : Over) (c : goal.After-other g) → Moved c.loop-left.to_move (addresses c.execute-queued.result) c.loop-left.first c.loop-left.second c.match-to_move-2.first c.match-to_move-2.second true
moved-at-end g c =
    let m = c.loop-left.to_move in
    let first = c.loop-left.first in
    let second = c.loop-left.second in
    let more = addresses c.execute-queued.result in
    let none = sym (ap addresses c.in-Nothing.is) in
    elim c.match-to_move-2.branch [
      | in-First-to_move w ↦
          first_moves m more first second c.match-to_move-2.first c.match-to_move-2.second true w.in-First-to_move.is
          (w.first-is ∙ (queued_nothing first w.end-is_empty.new.self c.loop-left.invariant.first.room w.end-is_empty.ensures.value ∙ ap (queued (without_front first)) none))
          w.second-is
          (cc)
      | in-Second-to_move w ↦
          second_moves m more first second c.match-to_move-2.first c.match-to_move-2.second true w.in-Second-to_move.is
          (w.second-is ∙ (queued_nothing second w.end-is_empty-in-Second-to_move.new.self c.loop-left.invariant.second.room w.end-is_empty-in-Second-to_move.ensures.value ∙ ap (queued (without_front second)) none))
          w.first-is
          (cc)
    ]

front-at-end : (g : Over) (c : goal.After-other g) → front (queue_at c.loop-left.to_move c.loop-left.first c.loop-left.second).addresses ≡ Some c.match-to_move.pc
front-at-end g c =
    elim c.match-to_move.branch [
      | in-First w ↦ first_front c.loop-left.to_move c.loop-left.first c.loop-left.second c.match-to_move.pc _ w.in-First.is w.front-pc.ensures w.pc-is
      | in-Second w ↦ second_front c.loop-left.to_move c.loop-left.first c.loop-left.second c.match-to_move.pc _ w.in-Second.is w.front-pc-in-Second.ensures w.pc-is
    ]

pub returns-then-is_empty-clause-after : goal.returns-then-is_empty-clause-after
returns-then-is_empty-clause-after g c = λ s used z l1 l2 bound.
    let m = c.loop-left.to_move in
    let first = c.loop-left.first in
    let second = c.loop-left.second in
    let kept = c.loop-left.invariant in
    let moved = moved-at-end g c in
    let after : ℕ → Side → Round = λ used next. round_in s c.execute-queued.new.core c.match-to_move-2.first.addresses c.match-to_move-2.second.addresses next used in
    let used_now = used + (c.args.most - (c.loop-left.left - 1)) in
    sym (kept.after s used z l1 l2 bound)
    ∙ (sym (after_turns-made m s (g.L.Limits.reach c.args.limits) c.match-to_move.pc c.loop-left.core c.execute-queued.new.core first second c.match-to_move-2.first c.match-to_move-2.second (addresses c.execute-queued.result)
    z (l1 ∙ sym kept.first_limit) (l2 ∙ sym kept.second_limit) kept.first_lives kept.second_lives (front-at-end g c) c.execute-queued.ensures.value moved.0
    used c.args.most c.loop-left.left bound c.loop-left-test.true kept.left)
    ∙ (after_turns-over (c.loop-left.left - 1) (after used_now (other m)) (over-empty m s c.execute-queued.new.core c.match-to_move-2.first c.match-to_move-2.second (other m) used_now moved.1)
    ∙ ap (after used_now) (sym c.other.ensures)))

pub returns-then-is_empty-clause-last : goal.returns-then-is_empty-clause-last
returns-then-is_empty-clause-last g c = λ s used z l1 l2 bound one.
    let m = c.loop-left.to_move in
    let first = c.loop-left.first in
    let second = c.loop-left.second in
    let kept = c.loop-left.invariant in
    let first_one : c.loop-left.left ≡ c.args.most = omega (arith, kept.left, c.loop-left-test.true, one) in
    let same = kept.start first_one in
    let moved = moved-at-end g c in
    sym (ap (λ (q : Queued). turned_by (addresses q)) c.in-Nothing.is)
    ∙ (turned-made m s (g.L.Limits.reach c.args.limits) c.match-to_move.pc c.loop-left.core c.execute-queued.new.core first second c.match-to_move-2.first c.match-to_move-2.second (addresses c.execute-queued.result)
    z (l1 ∙ sym kept.first_limit) (l2 ∙ sym kept.second_limit) kept.first_lives kept.second_lives (front-at-end g c) c.execute-queued.ensures.value moved.0
    used (omega (arith, bound, one))
    ∙ ap turned (same_round s used c.loop-left.core c.args.core.now first c.args.first.now second c.args.second.now m c.args.to_move same.0 same.1 same.2 same.3))

pub returns-clause-after : goal.returns-clause-after
returns-clause-after g c = λ s used z l1 l2 bound.
    let none : c.loop-left.left ≡ 0 = omega arith in
    sym (c.loop-left.invariant.after s used z l1 l2 bound)
    ∙ after_turns-none c.loop-left.left (λ (left : ℕ). round_in s c.loop-left.core c.loop-left.first.addresses c.loop-left.second.addresses c.loop-left.to_move (used + (c.args.most - left))) none

-- ---- what is queued are addresses of the core

pub follow-requires-clause-small : goal.follow-requires-clause-small
follow-requires-clause-small g c = omega (arith, c.in-One.ensures.addresses 0 0 (omega arith))

pub follow-requires-in-Second-to_move-2-clause-small : goal.follow-requires-in-Second-to_move-2-clause-small
follow-requires-in-Second-to_move-2-clause-small g c = omega (arith, c.in-One.ensures.addresses 0 0 (omega arith))

pub split-requires-clause-small : goal.split-requires-clause-small
split-requires-clause-small g c = omega (arith, c.in-Two.ensures.addresses 0 0 (omega arith))

pub split-requires-clause-small_behind : goal.split-requires-clause-small_behind
split-requires-clause-small_behind g c = omega (arith, c.in-Two.ensures.addresses 1 0 (omega arith))

pub split-requires-in-Second-to_move-3-clause-small : goal.split-requires-in-Second-to_move-3-clause-small
split-requires-in-Second-to_move-3-clause-small g c = omega (arith, c.in-Two.ensures.addresses 0 0 (omega arith))

pub split-requires-in-Second-to_move-3-clause-small_behind : goal.split-requires-in-Second-to_move-3-clause-small_behind
split-requires-in-Second-to_move-3-clause-small_behind g c = omega (arith, c.in-Two.ensures.addresses 1 0 (omega arith))

pub returns-then-is_empty-clause-first : goal.returns-then-is_empty-clause-first
returns-then-is_empty-clause-first g c =
    let kept = c.loop-left.invariant in
    (queues_kept c.args.size c.loop-left.to_move (addresses c.execute-queued.result) c.loop-left.first c.loop-left.second c.match-to_move-2.first c.match-to_move-2.second kept.first kept.second
    c.execute-queued.ensures.addresses (moved-at-end g c).0).0

pub returns-then-is_empty-clause-first_limit : goal.returns-then-is_empty-clause-first_limit
returns-then-is_empty-clause-first_limit g c =
    (limits_kept c.loop-left.to_move (addresses c.execute-queued.result) c.loop-left.first c.loop-left.second c.match-to_move-2.first c.match-to_move-2.second (moved-at-end g c).0).0 ∙ c.loop-left.invariant.first_limit

pub returns-then-is_empty-clause-second : goal.returns-then-is_empty-clause-second
returns-then-is_empty-clause-second g c =
    let kept = c.loop-left.invariant in
    (queues_kept c.args.size c.loop-left.to_move (addresses c.execute-queued.result) c.loop-left.first c.loop-left.second c.match-to_move-2.first c.match-to_move-2.second kept.first kept.second
    c.execute-queued.ensures.addresses (moved-at-end g c).0).1

pub returns-then-is_empty-clause-second_limit : goal.returns-then-is_empty-clause-second_limit
returns-then-is_empty-clause-second_limit g c =
    (limits_kept c.loop-left.to_move (addresses c.execute-queued.result) c.loop-left.first c.loop-left.second c.match-to_move-2.first c.match-to_move-2.second (moved-at-end g c).0).1 ∙ c.loop-left.invariant.second_limit

-- ---- what is executed is an address of the core

pub execute-queued-requires-clause-pc : goal.execute-queued-requires-clause-pc
execute-queued-requires-clause-pc g c =
    elim c.match-to_move.branch [
      | in-First w ↦ subst (λ (n : ℕ). n < c.args.size) (sym w.pc-is) (front_inside _ _ _ _ c.loop-left.invariant.first w.front-pc.ensures)
      | in-Second w ↦ subst (λ (n : ℕ). n < c.args.size) (sym w.pc-is) (front_inside _ _ _ _ c.loop-left.invariant.second w.front-pc-in-Second.ensures)
    ]

pub returns-clause-last : goal.returns-clause-last
returns-clause-last g c = λ s used z l1 l2 bound one. c.loop-left.invariant.last s used z l1 l2 bound one (omega (arith, c.loop-left-test.false))
