-- It is turned away, or the slot is free, or that of the browser that is disconnected.
use Rattle.{std.proofs.Common.{◌∙◌, None, sym}, koth_service.specs.Connections.stage_at, koth_service.proofs.Stages.instead_kept}
use Rattle.koth_service.proofs.{Displacing.{displaced, given_taken}, Told.grows_on, Visits.{same_stages, turned_away}}
use Rattle.koth_service.proofs.slots.take_in_one.Goals as goal

pub returns-then-is_some_and-clause-served : goal.returns-then-is_some_and-clause-served
returns-then-is_some_and-clause-served g c = λ store start peers slots clock on calls.
    turned_away g.S.Sockets.happened g.D.Device.facts (g.H.Host.shows c.args.host.now) start peers store (stage_at c.args.browsers.now.connections.items) c.args.sockets.now c.refuse_browser.new.self
    c.refuse_browser.ensures on

pub returns-in-Some-clause-served : goal.returns-in-Some-clause-served
returns-in-Some-clause-served g c = λ store start peers slots clock on calls.
    let taken = given_taken c.args.pass.now c.args.browsers.now.connections.items c.args.number c.in-Some.displaced.stage (sym c.in-Some.ensures.taken) c.requires in
    c.seat.ensures.served store start peers (slots ∙ sym c.in-Some.ensures.comes.size) clock
    (displaced g.S.Sockets.happened g.D.Device.facts (g.H.Host.shows c.args.host.now) start peers store c.args.pass.now c.args.sockets.now c.close_browser.new.self c.args.number
    c.args.browsers.now.connections.items c.take.new.self.connections.items slots clock taken.0 taken.1 c.in-Some.ensures.comes c.close_browser.ensures on calls)

pub returns-in-Some-clause-slots : goal.returns-in-Some-clause-slots
returns-in-Some-clause-slots g c = c.seat.ensures.slots ∙ c.in-Some.ensures.comes.size

pub returns-in-Some-clause-told : goal.returns-in-Some-clause-told
returns-in-Some-clause-told g c = grows_on _ _ _ c.tell-in-Some.ensures c.seat.ensures.told

pub returns-in-None-clause-served : goal.returns-in-None-clause-served
returns-in-None-clause-served g c = λ store start peers slots clock on calls.
    c.seat-in-None.ensures.served store start peers (slots ∙ sym c.in-None.ensures.comes.size) clock
    (same_stages g.S.Sockets.happened g.D.Device.facts (g.H.Host.shows c.args.host.now) start peers store c.args.sockets.now (stage_at c.args.browsers.now.connections.items)
    (stage_at c.take.new.self.connections.items)
    (λ p. c.in-None.ensures.comes.stages p ∙ instead_kept (stage_at c.args.browsers.now.connections.items) c.args.number None (sym c.in-None.ensures.taken) p) on)

pub returns-in-None-clause-slots : goal.returns-in-None-clause-slots
returns-in-None-clause-slots g c = c.seat-in-None.ensures.slots ∙ c.in-None.ensures.comes.size
