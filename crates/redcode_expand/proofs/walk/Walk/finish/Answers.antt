use Rattle.{std.proofs.Common.{arith, ap, length, subst, ◌∙◌}, redcode_expand.specs.{Walk.WalkState, Taken.finish_steps}, redcode_expand.proofs.Budget.{HasLength, replaced-length}}
use Rattle.redcode_expand.proofs.walk.Walk.finish.Goals as goal

pub returns-in-Ok-clause-lines : goal.returns-in-Ok-clause-lines
returns-in-Ok-clause-lines g c =
    let inside = c.self.inside in
    let same = subst (HasLength (length inside.entries.items)) c.in-Ok.ensures.lines (replaced-length inside.names.equs inside.entries.items) in
    omega (arith, same, c.self.invariant.lines, ap (λ (st : WalkState). st.counted) c.self.view_is)

pub returns-in-Ok-clause-plain : goal.returns-in-Ok-clause-plain
returns-in-Ok-clause-plain g c none = c.replace_each.ensures.plain (ap (λ (st : WalkState). st.names.equs) c.self.view_is ∙ none)

pub returns-in-Ok-clause-taken : goal.returns-in-Ok-clause-taken
returns-in-Ok-clause-taken g c = omega (arith, c.replace_each.ensures.taken, ap finish_steps c.self.view_is)

pub returns-clause-taken : goal.returns-clause-taken
returns-clause-taken g c = omega (arith, c.replace_each.ensures.taken, ap finish_steps c.self.view_is)

pub returns-clause-plain : goal.returns-clause-plain
returns-clause-plain g c none = c.replace_each.ensures.plain (ap (λ (st : WalkState). st.names.equs) c.self.view_is ∙ none)
