use Rattle.{std.proofs.Common.{◌≡◌, ◌<◌, false, ap, sym, subst, ◌∙◌}, mars_core.specs.{declared.round.Side.Side, Queue.front, Round.{Round, is_over, queue_of}, Arena.round_in}}
use Rattle.mars_core.proofs.Turns.{both_sides_live, front_inside}
use Rattle.mars_core.proofs.arena.Arena.front.Goals as goal

pub front-requires : goal.front-requires
front-requires g c =
    let a = c.self.inside in
    (both_sides_live (round_in a.settings a.core a.first.addresses a.second.addresses a.to_move a.used) (subst (λ (r : Round). is_over r ≡ false) (sym c.self.view_is) c.requires.on)).0

pub front-requires-in-Second : goal.front-requires-in-Second
front-requires-in-Second g c =
    let a = c.self.inside in
    (both_sides_live (round_in a.settings a.core a.first.addresses a.second.addresses a.to_move a.used) (subst (λ (r : Round). is_over r ≡ false) (sym c.self.view_is) c.requires.on)).1

pub returns-in-First-clause-value : goal.returns-in-First-clause-value
returns-in-First-clause-value g c =
    let a = c.self.inside in
    ap (λ (r : Round). front (queue_of r.to_move r)) (sym c.self.view_is)
    ∙ (ap (λ (m : Side). front (queue_of m (round_in a.settings a.core a.first.addresses a.second.addresses a.to_move a.used))) c.in-First.is ∙ c.front.ensures)

pub returns-in-Second-clause-value : goal.returns-in-Second-clause-value
returns-in-Second-clause-value g c =
    let a = c.self.inside in
    ap (λ (r : Round). front (queue_of r.to_move r)) (sym c.self.view_is)
    ∙ (ap (λ (m : Side). front (queue_of m (round_in a.settings a.core a.first.addresses a.second.addresses a.to_move a.used))) c.in-Second.is ∙ c.front-in-Second.ensures)

pub returns-in-First-clause-below : goal.returns-in-First-clause-below
returns-in-First-clause-below g c = subst (λ (r : Round). c.front.result < r.settings.core) c.self.view_is (front_inside _ _ _ _ c.self.invariant.round.first c.front.ensures)

pub returns-in-Second-clause-below : goal.returns-in-Second-clause-below
returns-in-Second-clause-below g c = subst (λ (r : Round). c.front-in-Second.result < r.settings.core) c.self.view_is (front_inside _ _ _ _ c.self.invariant.round.second c.front-in-Second.ensures)
