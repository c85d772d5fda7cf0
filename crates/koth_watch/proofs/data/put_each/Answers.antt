-- One event more.
use Rattle.{std.proofs.Common.ℕ, koth_replay.specs.declared.event.Event.Event, koth_watch.specs.Data.event_at, koth_watch.proofs.Steps.{all_put, one_more}}
use Rattle.koth_watch.proofs.data.put_each.Goals as goal

pub loop-place-preserved : goal.loop-place-preserved
loop-place-preserved g c =
    let loop = c.loop-place in
    one_more (λ (p : ℕ × Event). event_at c.args.core p.0 p.1) c.args.events.now loop.place _ c.args.page.now.items loop.page.items c.put_event_at.new.page.items
    c.loop-place-test.true loop.invariant c.in_ok-put_event_at.ensures

pub returns : goal.returns
returns g c =
    let loop = c.loop-place in
    all_put (λ (p : ℕ × Event). event_at c.args.core p.0 p.1) c.args.events.now loop.place c.args.page.now.items loop.page.items c.loop-place-test.false loop.invariant
