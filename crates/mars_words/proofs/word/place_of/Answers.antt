use Rattle.{std.proofs.Common.{ℕ, refl, sym, ap, ◌∙◌}, mars_words.specs.{Kinds.kinds, Words.{same_kind, handler_at, place_from}, declared.kinds.TheConstants.PLACES}, mars_words.proofs.Places.{place-within, place-found, place-other}}
use Rattle.mars_words.proofs.word.place_of.Goals as goal

pub bounds-place : goal.bounds-place
bounds-place c = place-within PLACES c.same_kind-kind.result _ refl refl c.from-place.ensures

pub returns-then-from-kind : goal.returns-then-from-kind
unfolding handler_at kinds
returns-then-from-kind c =
    let within = place-within PLACES c.same_kind-kind.result _ refl refl c.from-place.ensures in
    sym (place-found PLACES c.same_kind-kind.result _ refl c.from-place.ensures within (sym c.from.ensures ∙ c.if-from-kind.true))
    ∙ ap (λ (k : ℕ). place_from k 0 kinds) c.same_kind-kind.ensures.value

pub returns-else-from-kind : goal.returns-else-from-kind
unfolding handler_at kinds
returns-else-from-kind c =
    sym (place-other PLACES c.same_kind-kind.result _ refl c.from-place.ensures (λ e. c.if-from-kind.false (c.from.ensures ∙ e)))
    ∙ ap (λ (k : ℕ). place_from k 0 kinds) c.same_kind-kind.ensures.value
