use Rattle.std.proofs.Common.{Some, refl, sym, ap, ◌∙◌, arith}
use Rattle.mars_core.specs.{Queue.queued, Code.addresses, Window.{held, left_by}}
use Rattle.mars_core.proofs.{Turns.{without_front, front_inside, queued_nothing}, Passes.{turn-made, left-at-end, empty-at-end}}
use Rattle.mars_core.proofs.pass.turn_of.Goals as goal

pub dispatched-requires-clause-pc : goal.dispatched-requires-clause-pc
dispatched-requires-clause-pc g c =
    let q = held c.args.window.now c.args.places.now c.args.queue.now in
    front_inside c.args.size q.limit c.front.result q.addresses c.requires.queue (ap Some (sym c.front.ensures))

pub follow-requires-clause-small : goal.follow-requires-clause-small
follow-requires-clause-small g c = omega (arith, c.in-One.ensures.addresses 0 0 (omega arith))

pub split-requires-clause-small : goal.split-requires-clause-small
split-requires-clause-small g c = omega (arith, c.in-Two.ensures.addresses 0 0 (omega arith))

pub split-requires-clause-small_behind : goal.split-requires-clause-small_behind
split-requires-clause-small_behind g c = omega (arith, c.in-Two.ensures.addresses 1 0 (omega arith))

pub returns-in-Nothing-clause-turn : goal.returns-in-Nothing-clause-turn
returns-in-Nothing-clause-turn g c =
    let q = held c.args.window.now c.args.places.now c.args.queue.now in
    let q' = held c.end.new.self c.end.new.places c.end.new.queue in
    let d = c.dispatched.ensures in
    let e = c.end.ensures in
    turn-made c.args.size c.front.result c.args.core.now c.dispatched.new.core q (left_by c.end.result q') (addresses c.dispatched.result) (ap Some (sym c.front.ensures)) d.value c.requires.queue d.addresses
    (queued_nothing q (left_by c.end.result q') c.requires.queue.room (left-at-end q q' c.end.result e.kept e.value) ∙ ap (queued (without_front q)) (sym (ap addresses c.in-Nothing.is)))

pub returns-in-Nothing-clause-empty : goal.returns-in-Nothing-clause-empty
returns-in-Nothing-clause-empty g c =
    empty-at-end (held c.args.window.now c.args.places.now c.args.queue.now) (held c.end.new.self c.end.new.places c.end.new.queue) c.end.result c.end.ensures.last c.end.ensures.kept refl

pub returns-in-One-clause-turn : goal.returns-in-One-clause-turn
returns-in-One-clause-turn g c =
    let q = held c.args.window.now c.args.places.now c.args.queue.now in
    let d = c.dispatched.ensures in
    turn-made c.args.size c.front.result c.args.core.now c.dispatched.new.core q (held c.follow.new.self c.follow.new.places c.follow.new.queue) (addresses c.dispatched.result) (ap Some (sym c.front.ensures))
    d.value c.requires.queue d.addresses (c.follow.ensures.value ∙ ap (queued (without_front q)) (sym (ap addresses c.in-One.is)))

pub returns-in-Two-clause-turn : goal.returns-in-Two-clause-turn
returns-in-Two-clause-turn g c =
    let q = held c.args.window.now c.args.places.now c.args.queue.now in
    let d = c.dispatched.ensures in
    turn-made c.args.size c.front.result c.args.core.now c.dispatched.new.core q (held c.split.new.self c.split.new.places c.split.new.queue) (addresses c.dispatched.result) (ap Some (sym c.front.ensures))
    d.value c.requires.queue d.addresses (c.split.ensures.value ∙ ap (queued (without_front q)) (sym (ap addresses c.in-Two.is)))
