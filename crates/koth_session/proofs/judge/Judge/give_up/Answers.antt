use Rattle.{std.proofs.Common.{◌∙◌, ap, subst, sym}, koth_session.specs.Judge.{AreSubmitting, Judged, without}, koth_session.proofs.Fights.still_submitting}
use Rattle.koth_session.proofs.judge.Judge.give_up.Goals as goal

pub invariant_of-self : goal.invariant_of-self
invariant_of-self g c =
    subst (λ u. AreSubmitting c.self.inside.store u) (sym c.drop_of.ensures) (still_submitting c.args.number c.self.inside.store c.self.inside.under_way c.self.invariant)

pub returns-clause-store : goal.returns-clause-store
returns-clause-store g c = ap (λ (j : Judged _). j.store) c.self.view_is

pub returns-clause-under_way : goal.returns-clause-under_way
returns-clause-under_way g c = c.drop_of.ensures ∙ ap (λ (j : Judged _). without c.args.number j.under_way) c.self.view_is
