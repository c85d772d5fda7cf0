-- A command that is no submission, a source beside the submission of another, or the turn of a submission.
use Rattle.{std.proofs.Common.{◌∙◌, IfErr, IfOk, Some, refl, subst, sym}, koth_session.specs.{Judge.{AreSubmitting, judged}, Peers.{IsServed, IsUnanswered}}}
use Rattle.koth_session.proofs.Fights.{own_is, put_off_beside, served_beside, without_told}
use Rattle.koth_session.proofs.judge.serve_at.Goals as goal

pub returns-then-not-submits-clause-served : goal.returns-then-not-submits-clause-served
returns-then-not-submits-clause-served g c = λ its. record {
  serves = c.tell.ensures (Some c.args.steps);
  under_way = without_told c.args.number c.args.peer.now c.args.store.now c.args.under_way.now (sym c.submits.ensures ∙ c.if-not-submits.true) its;
  beside = λ some. refl;
}

pub returns-then-is_anothers-clause-served : goal.returns-then-is_anothers-clause-served
returns-then-is_anothers-clause-served g c = λ its.
    served_beside g.D.Device.facts (Some c.args.steps) c.args.number c.args.peer.now c.put_off.new.self c.args.store.now c.args.under_way.now c.put_off.result
    (sym c.is_anothers.ensures ∙ c.if-is_anothers.true) c.put_off.ensures.serves

pub returns-then-is_anothers-clause-unanswered : goal.returns-then-is_anothers-clause-unanswered
returns-then-is_anothers-clause-unanswered g c = λ its.
    put_off_beside g.D.Device.facts (Some c.args.steps) c.args.number c.args.peer.now c.put_off.new.self c.args.store.now c.args.under_way.now c.args.turns c.put_off.result
    (sym c.submits.ensures ∙ c.if-not-submits.false) (sym c.is_anothers.ensures ∙ c.if-is_anothers.true) c.put_off.ensures.put_off c.put_off.ensures.assembled c.put_off.ensures.puts_off

pub fight_on-requires-clause-submitting : goal.fight_on-requires-clause-submitting
fight_on-requires-clause-submitting g c =
    subst (λ (u : _). AreSubmitting c.args.store.now u) (sym c.take.ensures.value ∙ c.in-Some.is) c.requires.submitting

pub returns-in-Some-clause-served : goal.returns-in-Some-clause-served
returns-in-Some-clause-served g c = λ its.
    let own = own_is c.args.number c.in-Some.field-0-0 c.args.under_way.now c.in-Some.submission (sym c.take.ensures.value ∙ c.in-Some.is) (sym c.is_anothers.ensures ∙ c.if-is_anothers.false) in
    subst (λ (u : _). IfOk c.fight_on.result (λ outcome. IsServed g.D.Device.facts (Some c.args.steps) outcome c.args.number c.args.peer.now (judged c.args.store.now u) c.fight_on.new.peer
    (judged c.fight_on.new.store c.fight_on.new.under_way))) (sym own) (c.fight_on.ensures.served (Some c.args.steps) (its c.in-Some.submission own).1)

pub returns-in-Some-clause-unanswered : goal.returns-in-Some-clause-unanswered
returns-in-Some-clause-unanswered g c = λ its.
    let own = own_is c.args.number c.in-Some.field-0-0 c.args.under_way.now c.in-Some.submission (sym c.take.ensures.value ∙ c.in-Some.is) (sym c.is_anothers.ensures ∙ c.if-is_anothers.false) in
    subst (λ (u : _). IfErr c.fight_on.result (λ why. IsUnanswered c.args.turns why c.args.number c.args.peer.now (judged c.args.store.now u) c.fight_on.new.peer
    (judged c.fight_on.new.store c.fight_on.new.under_way))) (sym own) (c.fight_on.ensures.unanswered (its c.in-Some.submission own).1)

pub returns-in-None-clause-served : goal.returns-in-None-clause-served
returns-in-None-clause-served g c = λ its.
    subst (λ (u : _). IfOk c.begin.result (λ outcome. IsServed g.D.Device.facts (Some c.args.steps) outcome c.args.number c.args.peer.now (judged c.args.store.now u) c.begin.new.peer
    (judged c.args.store.now c.begin.new.under_way))) (sym (sym c.take.ensures.value ∙ c.in-None.is)) c.begin.ensures.served

pub returns-in-None-clause-unanswered : goal.returns-in-None-clause-unanswered
returns-in-None-clause-unanswered g c = λ its.
    subst (λ (u : _). IfErr c.begin.result (λ why. IsUnanswered c.args.turns why c.args.number c.args.peer.now (judged c.args.store.now u) c.begin.new.peer
    (judged c.args.store.now c.begin.new.under_way))) (sym (sym c.take.ensures.value ∙ c.in-None.is)) (c.begin.ensures.unanswered c.args.turns)
