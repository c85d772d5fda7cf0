-- One event more.
use Rattle.{std.proofs.Common.{List, ◌++◌, ap, ◌∙◌}, std.proofs.lemmas.List.take_all, koth_replay.specs.declared.event.Event.Event}
use Rattle.{koth_rounds.specs.Turns.{event_text, events_text}, koth_rounds.proofs.Written.one_event_put}
use Rattle.koth_rounds.proofs.turns.put_events.Goals as goal

pub loop-place-preserved : goal.loop-place-preserved
loop-place-preserved g c =
    let loop = c.loop-place in
    one_event_put (event_text c.args.form c.args.core c.args.number c.args.instr) c.args.events.now loop.place _ c.args.text.now.items loop.text.items
    c.put_event.new.text.items c.loop-place-test.true loop.invariant c.in_ok-put_event.ensures

pub returns : goal.returns
returns g c =
    let loop = c.loop-place in
    loop.invariant ∙ ap (λ (es : List Event). c.args.text.now.items ++ events_text c.args.form c.args.core c.args.number c.args.instr es)
    (take_all loop.place c.args.events.now c.loop-place-test.false)
