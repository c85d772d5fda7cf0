use Rattle.{std.proofs.{Common.{◌≡◌, ℕ, ◌≤◌, ◌+◌, List, ap, drop, subst, ◌∙◌}}, redcode_text.specs.Tokens.pieces, redcode_names.specs.Steps.replacing_steps}
use Rattle.redcode_expand.{specs.{Walk.WalkState, declared.walk.Walk.TheInside.Inside}, proofs.{Words.{EquList, Piece, names_among}, AddedEqus.for-found}}
use Rattle.redcode_expand.proofs.walk.Walk.begin_as.Goals as goal

-- the same count and EQUs
of-same : (old new : EquList) (ts us : List Piece) (work before : ℕ) → old ≡ new → ts ≡ us → work ≤ before + replacing_steps old ts → work ≤ before + replacing_steps new us
of-same old new ts us work before same are few = subst (λ (es : EquList). work ≤ before + replacing_steps es us) same (subst (λ (vs : List Piece). work ≤ before + replacing_steps old vs) are few)

pub returns-in-Ok-clause-work : goal.returns-in-Ok-clause-work
returns-in-Ok-clause-work g c =
    let same : c.define_earlier.new.self.equs ≡ c.self.inside.names.equs =
    for-found c.args.settings.now c.args.line.number c.self.inside.before (names_among (pieces c.labels.result.now)) c.self.inside.names c.define_earlier.new.self
    c.in_ok-counter.counter.now c.in_ok-counter.ensures in
    of-same c.define_earlier.new.self.equs c.args.self.now.names.equs (pieces c.behind_first-count.result.now) (drop 1 (pieces c.args.line.tokens.now)) c.copies_of.new.work c.args.work.now
    (same ∙ ap (λ (st : WalkState). st.names.equs) c.self.view_is) c.behind_first-count.ensures.behind
    (subst (λ (i : Inside g.row.A.Denot). c.copies_of.new.work ≤ c.args.work.now + replacing_steps i.names.equs (pieces c.behind_first-count.result.now)) c.self-inside.view_is
    c.copies_of.ensures.work)

pub returns-in-Err-clause-work : goal.returns-in-Err-clause-work
returns-in-Err-clause-work g c =
    let same : c.define_earlier.new.self.equs ≡ c.self.inside.names.equs =
    for-found c.args.settings.now c.args.line.number c.self.inside.before (names_among (pieces c.labels.result.now)) c.self.inside.names c.define_earlier.new.self
    c.in_ok-counter.counter.now c.in_ok-counter.ensures in
    of-same _ c.args.self.now.names.equs (pieces c.behind_first-count.result.now) (drop 1 (pieces c.args.line.tokens.now)) c.copies_of.new.work c.args.work.now
    (ap (λ (i : Inside g.row.A.Denot). i.names.equs) c.self-inside.view_is ∙ same ∙ ap (λ (st : WalkState). st.names.equs) c.self.view_is) c.behind_first-count.ensures.behind
    c.copies_of.ensures.work
