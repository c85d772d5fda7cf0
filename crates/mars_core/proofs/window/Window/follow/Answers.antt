use Rattle.std.proofs.Common.{ℕ, ◌∷◌, [], List, ap, ap₂, ◌∙◌}
use Rattle.mars_core.{specs.Queue.{Processes, processes, queued, behind_front}, proofs.Windows.{followed}}
use Rattle.mars_core.proofs.window.Window.follow.Goals as goal

pub returns-clause-value : goal.returns-clause-value
returns-clause-value g c =
    followed c.args.address c.from-self.result c.reach.new.self c.reach.new.places c.reach.new.queue c.reach.ensures.window c.reach.ensures.inside c.from-self.ensures
    ∙ ap₂ (λ (limit : ℕ) (xs : List ℕ). queued (processes limit xs) (c.args.address ∷ [])) c.reach.ensures.limit (ap (λ (q : Processes). behind_front q.addresses) c.reach.ensures.value)
