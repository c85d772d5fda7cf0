use Rattle.{std.proofs.Common.{◌∙◌, Ok, ap, subst, sym}, war_types.specs.Warrior.WarriorParts, redcode_asm.specs.Assembly.assembly}
use Rattle.hill_store.specs.Seen.{Seen, Submits}
use Rattle.hill_store.proofs.store.Store.settle.Goals as goal

pub returns-clause-submits : goal.returns-clause-submits
returns-clause-submits g c = λ source. λ is.
    subst (λ (s : Seen _). Submits g.D.Device.facts s source c.finish.result c.finish.new.self) c.fight_out-verdict.ensures.unchanged
    (c.finish.ensures.submits source (ap (λ (s : Seen _). assembly s.hill.settings source) c.fight_out-verdict.ensures.unchanged ∙ is ∙ ap (λ (w : WarriorParts). Ok w) (sym c.fight_out-verdict.ensures.warrior)))
