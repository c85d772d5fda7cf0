-- The time was told, and a command was carried out, a step of a submission was made, or a source was put off.
use Rattle.{std.proofs.Common.refl, koth_service.specs.Standing.peers_of, koth_service.proofs.{Servings.{asked, cut_off, nobody, put_off, served, stepped}, Steps.ticked_on, Turns.shared_at}}
use Rattle.koth_service.proofs.serving.serve_one.Goals as goal

pub returns-in-Nobody-step-clause-served : goal.returns-in-Nobody-step-clause-served
returns-in-Nobody-step-clause-served g c = λ start browsers on.
    let tells = ticked_on g.S.Sockets.happened g.D.Device.facts (g.H.Host.shows c.args.host.now) start browsers c.args.sockets.now c.now.new.self (peers_of c.args.desk.now) c.args.desk.now.judge.store
    c.now.result c.max-desk.result c.now.ensures c.max-desk.ensures on in
    let ticks = tells.0 in
    let serves = c.serve_next-step.ensures.serves ticks.1.of_one in
    rw c.in-Nobody-step.is (nobody g.S.Sockets.happened g.D.Device.facts (g.H.Host.shows c.args.host.now) start browsers c.now.new.self c.steps.result c.args.desk.now.shares.turns c.steps.ensures c.has_share-share.result _ c.serve_next-step.new.self.slots.items
    c.serve_next-step.new.self.next c.args.desk.now.judge c.serve_next-step.new.judge refl (rw c.in-Nobody-step.is at serves) ticks)

pub returns-in-Asked-clause-served : goal.returns-in-Asked-clause-served
returns-in-Asked-clause-served g c = λ start browsers on.
    let tells = ticked_on g.S.Sockets.happened g.D.Device.facts (g.H.Host.shows c.args.host.now) start browsers c.args.sockets.now c.now.new.self (peers_of c.args.desk.now) c.args.desk.now.judge.store
    c.now.result c.max-desk.result c.now.ensures c.max-desk.ensures on in
    let ticks = tells.0 in
    let serves = c.serve_next-step.ensures.serves ticks.1.of_one in
    let next = asked g.S.Sockets.happened g.D.Device.facts (g.H.Host.shows c.args.host.now) start browsers c.now.new.self c.steps.result c.args.desk.now.shares.turns c.steps.ensures c.has_share-share.result c.in-Asked.number _ c.serve_next-step.new.self.slots.items
    c.serve_next-step.new.self.next c.args.desk.now.judge c.serve_next-step.new.judge refl (rw c.in-Asked.is at serves) ticks in
    c.let_go.ensures.served start browsers next.0 next.1

pub returns-in-Served-clause-served : goal.returns-in-Served-clause-served
returns-in-Served-clause-served g c = λ start browsers on.
    let tells = ticked_on g.S.Sockets.happened g.D.Device.facts (g.H.Host.shows c.args.host.now) start browsers c.args.sockets.now c.now.new.self (peers_of c.args.desk.now) c.args.desk.now.judge.store
    c.now.result c.max-desk.result c.now.ensures c.max-desk.ensures on in
    let ticks = tells.0 in
    let shared = shared_at _ _ _ _ ticks.1.round tells.1 c.has_share-share.ensures in
    let serves = c.serve_next-step.ensures.serves ticks.1.of_one in
    served g.S.Sockets.happened g.D.Device.facts (g.H.Host.shows c.args.host.now) start browsers c.now.new.self c.steps.result c.args.desk.now.shares.turns c.steps.ensures c.has_share-share.result c.in-Served.number _ c.serve_next-step.new.self.slots.items c.serve.new.self.seats.items
    c.serve_next-step.new.self.next c.args.desk.now.judge c.serve_next-step.new.judge refl (rw c.in-Served.is at serves) (c.serve_next-step.ensures.of_one ticks.1.of_one) c.serve.ensures ticks shared

pub returns-in-Stepped-clause-served : goal.returns-in-Stepped-clause-served
returns-in-Stepped-clause-served g c = λ start browsers on.
    let tells = ticked_on g.S.Sockets.happened g.D.Device.facts (g.H.Host.shows c.args.host.now) start browsers c.args.sockets.now c.now.new.self (peers_of c.args.desk.now) c.args.desk.now.judge.store
    c.now.result c.max-desk.result c.now.ensures c.max-desk.ensures on in
    let ticks = tells.0 in
    let shared = shared_at _ _ _ _ ticks.1.round tells.1 c.has_share-share.ensures in
    let serves = c.serve_next-step.ensures.serves ticks.1.of_one in
    rw c.in-Stepped.is (stepped g.S.Sockets.happened g.D.Device.facts (g.H.Host.shows c.args.host.now) start browsers c.now.new.self c.steps.result c.args.desk.now.shares.turns c.steps.ensures c.has_share-share.result c.in-Stepped.field-0 c.args.desk.now.clock _ _ c.serve_next-step.new.self.slots.items
    c.serve_next-step.new.self.next c.args.desk.now.judge c.serve_next-step.new.judge refl refl c.step.ensures (rw c.in-Stepped.is at serves) (c.serve_next-step.ensures.of_one ticks.1.of_one) ticks tells.1 shared)

pub returns-in-PutOff-clause-served : goal.returns-in-PutOff-clause-served
returns-in-PutOff-clause-served g c = λ start browsers on.
    let tells = ticked_on g.S.Sockets.happened g.D.Device.facts (g.H.Host.shows c.args.host.now) start browsers c.args.sockets.now c.now.new.self (peers_of c.args.desk.now) c.args.desk.now.judge.store
    c.now.result c.max-desk.result c.now.ensures c.max-desk.ensures on in
    let ticks = tells.0 in
    let shared = shared_at _ _ _ _ ticks.1.round tells.1 c.has_share-share.ensures in
    let serves = c.serve_next-step.ensures.serves ticks.1.of_one in
    rw c.in-PutOff.is (put_off g.S.Sockets.happened g.D.Device.facts (g.H.Host.shows c.args.host.now) start browsers c.now.new.self c.steps.result c.args.desk.now.shares.turns c.steps.ensures c.has_share-share.result c.in-PutOff.field-0 _ c.serve_next-step.new.self.slots.items
    c.serve_next-step.new.self.next c.args.desk.now.judge c.serve_next-step.new.judge refl (rw c.in-PutOff.is at serves) (c.serve_next-step.ensures.of_one ticks.1.of_one) ticks shared)

pub returns-in-StoreFailed-clause-served : goal.returns-in-StoreFailed-clause-served
returns-in-StoreFailed-clause-served g c = λ start browsers on.
    let tells = ticked_on g.S.Sockets.happened g.D.Device.facts (g.H.Host.shows c.args.host.now) start browsers c.args.sockets.now c.now.new.self (peers_of c.args.desk.now) c.args.desk.now.judge.store
    c.now.result c.max-desk.result c.now.ensures c.max-desk.ensures on in
    let ticks = tells.0 in
    let shared = shared_at _ _ _ _ ticks.1.round tells.1 c.has_share-share.ensures in
    let serves = c.serve_next-step.ensures.serves ticks.1.of_one in
    cut_off g.S.Sockets.happened g.D.Device.facts (g.H.Host.shows c.args.host.now) start browsers c.now.new.self c.steps.result c.args.desk.now.shares.turns c.steps.ensures c.has_share-share.result c.in-StoreFailed.number _ c.serve_next-step.new.self.slots.items
    c.serve-in-StoreFailed.new.self.seats.items c.serve_next-step.new.self.next c.args.desk.now.judge c.serve_next-step.new.judge refl (rw c.in-StoreFailed.is at serves) (c.serve_next-step.ensures.of_one ticks.1.of_one)
    c.serve-in-StoreFailed.ensures ticks shared
