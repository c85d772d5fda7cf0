-- A browser is answered only once its request is whole.
use Rattle.{koth_service.proofs.Visits.unshown}
use Rattle.koth_service.proofs.moves.after_stage.Goals as goal

pub returns-in-Asking : goal.returns-in-Asking
returns-in-Asking g c = λ start peers browsers share on.
    unshown g.S.Sockets.happened g.D.Device.facts (g.H.Host.shows c.args.host.now) start peers c.args.store.now _ _ _ c.read.ensures.quiet
    (c.read.ensures.moves c.args.store.now c.args.host.now start peers browsers (rw c.in-Asking.is at on))

pub returns-then-may_answer : goal.returns-then-may_answer
returns-then-may_answer g c = λ start peers browsers share on.
    c.answer.ensures c.args.sockets.now c.args.number start peers browsers (λ _. share c.if-may_answer.true) (rw c.in-Asked.is at on)

pub returns-else-may_answer : goal.returns-else-may_answer
returns-else-may_answer g c = λ start peers browsers share on. rw c.in-Asked.is at on

pub returns-in-Answering : goal.returns-in-Answering
returns-in-Answering g c = λ start peers browsers share on.
    unshown g.S.Sockets.happened g.D.Device.facts (g.H.Host.shows c.args.host.now) start peers c.args.store.now _ _ _ c.write.ensures.quiet
    (c.write.ensures.moves c.args.store.now c.args.host.now start peers browsers (rw c.in-Answering.is at on))

pub returns-in-Parting : goal.returns-in-Parting
returns-in-Parting g c = λ start peers browsers share on.
    unshown g.S.Sockets.happened g.D.Device.facts (g.H.Host.shows c.args.host.now) start peers c.args.store.now _ _ _ c.drain.ensures.quiet
    (c.drain.ensures.moves c.args.store.now c.args.host.now start peers browsers (rw c.in-Parting.is at on))
