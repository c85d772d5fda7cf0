-- The warrior there is the one of the member there.
use Rattle.{std.proofs.Common.{[], ◌∷◌, ◌++◌, OnOk, ap, subst, sym, ◌∙◌}, sector_disk.specs.Memory.memory_facts}
use Rattle.{hill_store.specs.Holding.IsHolding, koth_keeping.{specs.Reseeding.source_of, proofs.Holdings.{none_at, same_at}}}
use Rattle.koth_keeping.proofs.reseeding.submit_member.Goals as goal

pub returns-in-Some : goal.returns-in-Some
returns-in-Some g c = λ s before m is holding.
    let k = c.args.hill.now in
    let there = c.in-Some.ensures.is in
    let core = c.core.ensures.value ∙ ap (λ s. s.core) c.settings.ensures.value in
    let same = there.2 ∙ ap (λ m. m.warrior) (same_at k.members c.args.place there.0 m there.1 is) in
    subst (λ n. OnOk c.submit_warrior.result (IsHolding memory_facts s (before ++ source_of n m.warrior ∷ []) c.submit_warrior.new.store)) core
    (subst (λ w. OnOk c.submit_warrior.result (IsHolding memory_facts s (before ++ source_of c.core.result w ∷ []) c.submit_warrior.new.store)) same
    (c.submit_warrior.ensures s before holding))

pub returns-in-None : goal.returns-in-None
returns-in-None g c = λ s before m is holding. absurd (none_at _ m is (c.warrior_at.ensures.none c.in-None.is))
