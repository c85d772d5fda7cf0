-- The desk has the store and the limits that were given.
use Rattle.{std.proofs.Common.subst, koth_service.specs.Services.{ServesPeers, start_of}, koth_service.proofs.{Ends.{at_once, durable_of, end_of, history_of}, Told.stays}}
use Rattle.koth_service.proofs.service.serve_peers.Goals as goal

pub returns-in-Ok-clause-served : goal.returns-in-Ok-clause-served
returns-in-Ok-clause-served g c =
    let shows = g.H.Host.shows c.args.host.now in
    subst (λ limits. ServesPeers g.S.Sockets.happened g.D.Device.facts shows (start_of c.args.store c.args.limits.peers c.args.limits.browsers) limits.connections c.serve_at.result c.args.sockets.now c.serve_at.new.sockets)
    c.in-Ok.ensures.limits
    (subst (λ start. ServesPeers g.S.Sockets.happened g.D.Device.facts shows start c.in-Ok.desk.limits.connections c.serve_at.result c.args.sockets.now c.serve_at.new.sockets)
    c.in-Ok.ensures.start c.serve_at.ensures.served)

pub returns-in-Ok-clause-durability : goal.returns-in-Ok-clause-durability
returns-in-Ok-clause-durability g c = λ none. durable_of (returns-in-Ok-clause-served g c none)

pub returns-in-Ok-clause-history : goal.returns-in-Ok-clause-history
returns-in-Ok-clause-history g c = λ none. history_of (returns-in-Ok-clause-served g c none)

pub returns-in-Ok-clause-end : goal.returns-in-Ok-clause-end
returns-in-Ok-clause-end g c = λ none. end_of (returns-in-Ok-clause-served g c none)

pub returns-in-Err-clause-served : goal.returns-in-Err-clause-served
returns-in-Err-clause-served g c = λ none. at_once g.S.Sockets.happened g.D.Device.facts (g.H.Host.shows c.args.host.now) (start_of c.args.store c.args.limits.peers c.args.limits.browsers) c.args.limits.connections _ c.args.sockets.now none

pub returns-in-Err-clause-durability : goal.returns-in-Err-clause-durability
returns-in-Err-clause-durability g c = λ none. durable_of (returns-in-Err-clause-served g c none)

pub returns-in-Err-clause-history : goal.returns-in-Err-clause-history
returns-in-Err-clause-history g c = λ none. history_of (returns-in-Err-clause-served g c none)

pub returns-in-Err-clause-end : goal.returns-in-Err-clause-end
returns-in-Err-clause-end g c = λ none. end_of (returns-in-Err-clause-served g c none)

pub returns-in-Err-clause-told : goal.returns-in-Err-clause-told
returns-in-Err-clause-told g c = stays _
