-- The reports of parting stand after those of sending, and those of browsers after both. Browsers go on after the peers, by their share, and then the time is told.
use Rattle.{std.proofs.Common.{refl, subst}, hill_store.specs.Seen.Seen}
use Rattle.koth_service.{specs.{Connections.{BrowsersShownAt, stage_at}, Standing.{peers_of, shares_of}}, proofs.{Steps.{ticked, told_on}, Told.grows_on}}
use Rattle.koth_service.proofs.service.give_out.Goals as goal

pub returns-clause-told : goal.returns-clause-told
returns-clause-told g c = grows_on _ _ _ c.send_all.ensures.told (grows_on _ _ _ c.part_all.ensures.told c.serve_browsers-round.ensures.told)

pub returns-clause-served : goal.returns-clause-served
returns-clause-served g c = λ start slots on.
    let browsers = stage_at c.args.browsers.now.connections.items in
    let happened = g.S.Sockets.happened in
    let facts = g.D.Device.facts in
    let shows = g.H.Host.shows c.args.host.now in
    let desk = c.part_all.new.desk in
    let goes = subst (λ (store : Seen _). BrowsersShownAt happened facts shows store desk.clock c.may_show-may_answer.result c.part_all.new.sockets c.args.browsers.now
    c.serve_browsers-round.result.has_answered c.serve_browsers-round.new.sockets c.serve_browsers-round.new.browsers) c.store.ensures c.serve_browsers-round.ensures.served in
    told_on happened facts shows start (stage_at c.serve_browsers-round.new.browsers.connections.items) c.serve_browsers-round.result.has_answered c.serve_browsers-round.new.sockets c.now-2.new.self (peers_of desk)
    desk.judge.store c.now-2.result c.max-desk-2.result (shares_of c.tell.new.self) c.now-2.ensures c.max-desk-2.ensures c.tell.ensures
    (goes start (peers_of desk) slots refl c.may_show-may_answer.ensures
    (c.part_all.ensures.served start browsers (c.send_all.ensures.served start browsers (
    ticked happened facts shows start browsers c.args.sockets.now c.now.new.self (peers_of c.args.desk.now) c.args.desk.now.judge.store c.now.result
    c.max-desk.result c.now.ensures c.max-desk.ensures on))))
