use Rattle.{std.proofs.Common.refl, koth_service.specs.{Answering.AnswersBytes, declared.connections.Stage.Stage}, koth_service.proofs.Visits.{answered, over}}
use Rattle.koth_service.proofs.moves.answer.Goals as goal

pub returns-in-Ok-Some : goal.returns-in-Ok-Some
returns-in-Ok-Some g c = λ sockets n start slots browsers may on.
    let answers : AnswersBytes (g.H.Host.shows c.args.host.now c.args.store.now) c.args.visit c.in-Ok-Some.answer.items = rw c.in-Ok-Some.field-0-is at c.in-Ok-Some.ensures in
    answered g.S.Sockets.happened g.D.Device.facts (g.H.Host.shows c.args.host.now) start slots browsers c.args.store.now n sockets c.args.visit
    c.in-Ok-Some.answer.items c.new.result (may refl) answers c.new.ensures on

pub returns-in-Err : goal.returns-in-Err
returns-in-Err g c = λ sockets n start slots browsers may on.
    over g.S.Sockets.happened g.D.Device.facts (g.H.Host.shows c.args.host.now) start slots browsers c.args.store.now n sockets (Stage.Asked c.args.visit) on
