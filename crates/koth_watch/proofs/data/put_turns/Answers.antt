-- One turn more.
use Rattle.{std.proofs.Common.{ℕ, List, [], ◌<◌, length, arith, rules}, koth_replay.specs.declared.event.Event.Event, koth_watch.specs.Data.turn_at, koth_watch.proofs.Steps.{all_put, one_more}}
use Rattle.koth_watch.proofs.data.put_turns.Goals as goal

pub loop-place-preserved : goal.loop-place-preserved
loop-place-preserved g c =
    let loop = c.loop-place in
    let turns = c.args.replay.now.turns in
    let below : loop.place < length turns = search rules in
    one_more (λ (p : ℕ × List Event). turn_at c.args.core p.0 p.1) turns loop.place [] c.args.page.now.items loop.page.items c.put_turn_at.new.page.items
    below loop.invariant (rw c.events_of.ensures at c.in_ok-put_turn_at.ensures)

pub returns : goal.returns
returns g c =
    let loop = c.loop-place in
    all_put (λ (p : ℕ × List Event). turn_at c.args.core p.0 p.1) c.args.replay.now.turns loop.place c.args.page.now.items loop.page.items (omega (arith, c.turns-place-end.ensures, c.loop-place-test.false)) loop.invariant
