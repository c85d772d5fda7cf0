-- While nothing is unsent the vector is empty, and has room for 96 bytes.
use Rattle.{std.proofs.{Common.{length, ap, arith}, lemmas.List.length-drop}, koth_session.specs.Outbox.Outgoing}
use Rattle.koth_session.proofs.outbox.Outbox.reserve.Goals as goal

pub returns-clause-first : goal.returns-clause-first
returns-clause-first g c = λ few none.
    let size = length-drop c.self.inside.sent c.self.inside.bytes.items in
    let seen = ap (λ (o : Outgoing). length o.unsent) c.self.view_is in
    let nothing = ap length none in
    c.reserve.ensures.succeeds (omega (arith, few, size, seen, nothing, c.self.invariant.0, c.self.invariant.2))
