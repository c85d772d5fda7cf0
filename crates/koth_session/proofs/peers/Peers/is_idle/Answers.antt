-- One of which a command may be carried out, or none.
use Rattle.{std.proofs.Common.{◌≡◌, ℕ, None, false, subst, true}, koth_session.specs.Peers.{IsFirstDue, is_sought_at, may_serve_at}}
use Rattle.koth_session.proofs.FirstDue.{nobody_may, one_may}
use Rattle.koth_session.proofs.peers.Peers.is_idle.Goals as goal

pub returns-in-Some-clause-busy : goal.returns-in-Some-clause-busy
returns-in-Some-clause-busy g c = λ _.
    let slots = c.args.self.now.slots.items in
    let found : IsFirstDue None c.busy.result slots 0 c.in-Some.field-0 = subst (λ s. IsFirstDue None c.busy.result s 0 c.in-Some.field-0) c.as_slice.ensures.value c.in-Some.ensures in
    (c.in-Some.field-0, subst (λ b. may_serve_at b slots c.in-Some.field-0 ≡ true) c.busy.ensures (one_may false c.busy.result slots c.args.self.now.next c.in-Some.field-0 found.due))

pub returns-in-None-clause-idle : goal.returns-in-None-clause-idle
returns-in-None-clause-idle g c = λ _.
    let slots = c.args.self.now.slots.items in
    let none : (p : ℕ) → is_sought_at None c.busy.result slots p ≡ false = subst (λ s. (p : ℕ) → is_sought_at None c.busy.result s p ≡ false) c.as_slice.ensures.value c.in-None.ensures in
    subst (λ b. (p : ℕ) → may_serve_at b slots p ≡ false) c.busy.ensures (nobody_may false c.busy.result slots c.args.self.now.next none)
