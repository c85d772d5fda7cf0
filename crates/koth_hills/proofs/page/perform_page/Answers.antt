-- The store's hill is some hill.
use Rattle.{std.proofs.Common.{List, ℕ, ap₂}, koth_commands.specs.{Answer.answer_parts, declared.status.Status.Status}}
use Rattle.koth_hills.proofs.page.perform_page.Goals as goal

pub returns-in_ok-text-in-Ok : goal.returns-in_ok-text-in-Ok
returns-in_ok-text-in-Ok g c =
    (c.in-Ok.store.hill, ap₂ (λ (text note : List ℕ). answer_parts Status.Done text note) c.in_ok-text-in-Ok.ensures c.new.ensures.items)
