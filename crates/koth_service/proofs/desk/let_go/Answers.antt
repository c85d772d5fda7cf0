-- It is disconnected for the cause that there is.
use Rattle.{std.proofs.Common.{◌+◌, ◌≤◌, arith, refl}, koth_service.specs.Standing.peers_of, koth_service.proofs.Steps.left}
use Rattle.koth_service.proofs.desk.let_go.Goals as goal

pub returns-in-Some-clause-served : goal.returns-in-Some-clause-served
returns-in-Some-clause-served g c = λ start browsers on cause.
    let more : c.saturating_add-desk.result ≤ c.args.desk.now.sessions.ended + 1 = omega arith in
    left g.S.Sockets.happened g.D.Device.facts (g.H.Host.shows c.args.host.now) start browsers c.args.sockets.now c.close.new.self (peers_of c.args.desk.now) _ _ _ c.args.number c.args.how
    c.leave.ensures.only c.leave.ensures.at c.leave-2.ensures.only c.leave-2.ensures.at more c.leave.ensures.next c.leave.ensures.under_way c.leave.ensures.store refl refl refl c.close.ensures on cause

pub returns-in_default-clause-served : goal.returns-in_default-clause-served
returns-in_default-clause-served g c = λ start browsers on cause.
    let more : c.saturating_add-desk.result ≤ c.args.desk.now.sessions.ended + 1 = omega arith in
    left g.S.Sockets.happened g.D.Device.facts (g.H.Host.shows c.args.host.now) start browsers c.args.sockets.now c.close.new.self (peers_of c.args.desk.now) _ _ _ c.args.number c.args.how
    c.leave.ensures.only c.leave.ensures.at c.leave-2.ensures.only c.leave-2.ensures.at more c.leave.ensures.next c.leave.ensures.under_way c.leave.ensures.store refl refl refl c.close.ensures on cause
