-- It went on as it did, however the peers stand, with as many slots, and what is reported stands on standard error.
use Rattle.std.proofs.Common.{◌≡◌, length}
use Rattle.koth_service.specs.{Told.Grows, Connections.BrowsersShownAt}
use Rattle.koth_service.proofs.browsers.serve_browsers.Given as goal

abbrev pub invariant-loop-place : goal.invariant-loop-place
invariant-loop-place g l =
    BrowsersShownAt g.S.Sockets.happened g.D.Device.facts (g.H.Host.shows l.fn.host) l.fn.store l.fn.pass.now l.fn.pass.may_answer l.fn.sockets l.fn.browsers l.round.has_answered l.sockets l.browsers
    × (length l.browsers.connections.items ≡ length l.fn.browsers.connections.items)
    × Grows (g.E.Write.contents l.initial.errors) (g.E.Write.contents l.errors)
