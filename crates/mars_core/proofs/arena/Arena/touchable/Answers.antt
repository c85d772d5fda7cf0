-- The next turn executes the process at the front.
use Rattle.{std.proofs.Common.{◌≡◌, ◌∙◌, false, sym, subst, ℕ, ◌≤◌, subst₂, arith}, mars_core.specs.{Cells.IsCore, Round.{Round, executed, is_over, reach_of}, Touched.AreSameBut}}
use Rattle.mars_core.proofs.{Divisors.divisor-most, Touched.turn-same}
use Rattle.mars_core.proofs.arena.Arena.touchable.Goals as goal

pub returns-clause-same : goal.returns-clause-same
returns-clause-same g c =
    let r : Round = c.args.self.now in
    let on : is_over r ≡ false = sym c.is_over.ensures.value ∙ c.if-is_over.false in
    let inside = c.touchable.ensures.same (reach_of c.self.inside.settings) (sym (c.of-size.ensures ∙ c.core.ensures.value)) (sym (c.from-write.ensures ∙ c.write_limit.ensures.value)) in (
      on,
      turn-same r c.front.result c.touchable.result on c.front.ensures.value
          (subst (λ (x : Round). AreSameBut c.touchable.result x.core (executed (reach_of x.settings) x.core c.front.result).core) c.self.view_is inside),
    )

pub touchable-requires-clause-core : goal.touchable-requires-clause-core
touchable-requires-clause-core g c = subst (λ (n : ℕ). IsCore n c.self.inside.core) (sym (c.of-size.ensures ∙ c.core.ensures.value)) c.self.invariant.round.core

pub touchable-requires-clause-write_least : goal.touchable-requires-clause-write_least
touchable-requires-clause-write_least g c = subst (λ (n : ℕ). 1 ≤ n) (sym (c.from-write.ensures ∙ c.write_limit.ensures.value)) c.core.ensures.settings.write_least

pub touchable-requires-clause-write_most : goal.touchable-requires-clause-write_most
touchable-requires-clause-write_most g c =
    let settings = c.self.inside.settings in
    let most : settings.write_limit ≤ settings.core = divisor-most settings.core settings.write_limit (omega (arith, c.core.ensures.settings.core_least)) c.core.ensures.settings.write_divides in
    subst₂ (λ (n m : ℕ). n ≤ m) (sym (c.from-write.ensures ∙ c.write_limit.ensures.value)) (sym (c.of-size.ensures ∙ c.core.ensures.value)) most
