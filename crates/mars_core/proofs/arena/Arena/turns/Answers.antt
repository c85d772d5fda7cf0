use Rattle.{std.proofs.Common.{◌≡◌, ℕ, ◌≤◌, sym, ap, subst, subst₂, ◌∙◌, arith}, mars_core.specs.Round.{Round, reach_of}, mars_core.proofs.Divisors.divisor-most}
use Rattle.mars_core.proofs.arena.Arena.turns.Goals as goal

pub whole_turns-requires-clause-limits : goal.whole_turns-requires-clause-limits
whole_turns-requires-clause-limits g c =
    let size : c.self.inside.settings.core ≡ c.of-size.result = sym (c.of-size.ensures ∙ c.core.ensures.value) in
    let read : c.self.inside.settings.read_limit ≡ c.of-size.result = sym c.read_limit-read.ensures.value ∙ (c.if-read-core.true ∙ (c.core-2.ensures.value ∙ size)) in
    let write : c.self.inside.settings.write_limit ≡ c.of-size.result = sym c.write_limit-write.ensures.value ∙ (c.if-write-core.true ∙ (c.core-then-read-core.ensures.value ∙ size)) in
    ap (λ (r : Round). reach_of r.settings) (sym c.self.view_is) ∙ (λ t. record { size = size t; read = read t; write = write t })

pub turns_under-requires-clause-limits : goal.turns_under-requires-clause-limits
turns_under-requires-clause-limits g c =
    let size : c.self.inside.settings.core ≡ c.of.result.size = sym (c.of.ensures.size ∙ (c.of-size.ensures ∙ c.core.ensures.value)) in
    let read : c.self.inside.settings.read_limit ≡ c.of.result.read = sym (c.of.ensures.read ∙ c.read_limit-read.ensures.value) in
    let write : c.self.inside.settings.write_limit ≡ c.of.result.write = sym (c.of.ensures.write ∙ c.write_limit-write.ensures.value) in
    ap (λ (r : Round). reach_of r.settings) (sym c.self.view_is) ∙ (λ t. record { size = size t; read = read t; write = write t })

pub of-requires-clause-read_least : goal.of-requires-clause-read_least
of-requires-clause-read_least g c = subst (λ (n : ℕ). 1 ≤ n) (sym c.read_limit-read.ensures.value) c.core.ensures.settings.read_least

pub of-requires-clause-read_most : goal.of-requires-clause-read_most
of-requires-clause-read_most g c =
    let settings = c.self.inside.settings in
    let most : settings.read_limit ≤ settings.core = divisor-most settings.core settings.read_limit (omega (arith, c.core.ensures.settings.core_least)) c.core.ensures.settings.read_divides in
    subst₂ (λ (n m : ℕ). n ≤ m) (sym c.read_limit-read.ensures.value) (sym (c.of-size.ensures ∙ c.core.ensures.value)) most

pub of-requires-clause-write_least : goal.of-requires-clause-write_least
of-requires-clause-write_least g c = subst (λ (n : ℕ). 1 ≤ n) (sym c.write_limit-write.ensures.value) c.core.ensures.settings.write_least

pub of-requires-clause-write_most : goal.of-requires-clause-write_most
of-requires-clause-write_most g c =
    let settings = c.self.inside.settings in
    let most : settings.write_limit ≤ settings.core = divisor-most settings.core settings.write_limit (omega (arith, c.core.ensures.settings.core_least)) c.core.ensures.settings.write_divides in
    subst₂ (λ (n m : ℕ). n ≤ m) (sym c.write_limit-write.ensures.value) (sym (c.of-size.ensures ∙ c.core.ensures.value)) most
