-- The source was answered, and so it is held.
use Rattle.{std.proofs.Common.{[], ◌∷◌, ◌++◌, subst, sym, ◌∙◌}, sector_disk.specs.Memory.memory_facts}
use Rattle.{hill_store.specs.Holding.IsHolding, koth_keeping.proofs.Holdings.held}
use Rattle.koth_keeping.proofs.reseeding.submit_warrior.Goals as goal

pub returns-then-is_answer : goal.returns-then-is_answer
returns-then-is_answer g c = λ s before holding.
    let answered = sym c.is_answer.ensures ∙ c.if-is_answer.true in
    subst (λ t. IsHolding memory_facts s (before ++ t ∷ []) c.submit-reply.new.self) (c.as_slice.ensures.value ∙ c.in_ok-source.ensures)
    (held memory_facts s before _ c.submit-reply.result c.submit-reply.new.self answered (c.submit-reply.ensures.holds s before holding))
