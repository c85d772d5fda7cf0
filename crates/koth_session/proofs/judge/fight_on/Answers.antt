-- The submission is fought on, or finished.
use Rattle.{std.proofs.Common.{◌≡◌, ◌∙◌, Ok, ap, is_some, refl, subst, sym, true≢false}, war_types.specs.Warrior.WarriorParts, koth_hill.specs.Kept.verdict_kept}
use Rattle.{hill_store.specs.{Seen.Seen, Submission.{IsSubmitting, MayChallenge}}, koth_protocol.specs.Commands.kept_source, koth_session.specs.{Judge.IsOfSource, Peer.Serves}, koth_session.proofs.Fights.without_own}
use Rattle.koth_session.proofs.judge.fight_on.Goals as goal

pub finish-requires-clause-may : goal.finish-requires-clause-may
finish-requires-clause-may g c = subst (λ (s : Seen _). MayChallenge s c.step.new.submission.warrior) (sym c.in-Some.ensures.unchanged) c.in-Some.ensures.submitting.may

pub finish-requires-clause-verdict : goal.finish-requires-clause-verdict
finish-requires-clause-verdict g c =
    c.in-Some.ensures.last ∙ ap (λ (w : WarriorParts). verdict_kept c.args.store.now.hill w) (sym c.in-Some.ensures.warrior)
    ∙ ap (λ (s : Seen _). verdict_kept s.hill c.step.new.submission.warrior) (sym c.in-Some.ensures.unchanged)

pub returns-in-Some-clause-served : goal.returns-in-Some-clause-served
returns-in-Some-clause-served g c = λ steps of_source.
    let bytes = kept_source c.args.peer.now.inbox.script.source in
    let same : c.step.new.self ≡ c.args.store.now = c.in-Some.ensures.unchanged in
    let of_new : IsOfSource c.step.new.self.hill.settings bytes c.step.new.submission =
    subst (λ (s : Seen _). IsOfSource s.hill.settings bytes c.step.new.submission) (sym same) (of_source ∙ ap (λ (w : WarriorParts). Ok w) (sym c.in-Some.ensures.warrior)) in record {
      serves = subst (λ (s : Seen _). Serves g.D.Device.facts steps c.finish.result c.args.peer.now s c.finish.new.self c.finish.new.store) same (c.finish.ensures steps of_new);
      under_way = c.requires.free ∙ sym (without_own c.args.number c.args.submission);
      beside = λ some. absurd (true≢false (sym some ∙ ap is_some c.requires.free));
    }

pub returns-in-None-clause-submitting : goal.returns-in-None-clause-submitting
returns-in-None-clause-submitting g c = subst (λ (s : Seen _). IsSubmitting s c.step.new.submission) (sym c.in-None.ensures.unchanged) c.in-None.ensures.submitting

pub returns-in-None-clause-unanswered : goal.returns-in-None-clause-unanswered
returns-in-None-clause-unanswered g c = λ of_source. record {
  submits = c.requires.submits;
  own = without_own c.args.number c.args.submission;
  stays = record { unsent = refl; inbox = refl; closed = refl; end = refl; waits = refl };
  store = c.in-None.ensures.unchanged;
  submission = c.step.new.submission;
  under_way = refl;
  further = (c.in-None.ensures.warrior, c.in-None.ensures.rounds refl);
  of_source = of_source ∙ ap (λ (w : WarriorParts). Ok w) (sym c.in-None.ensures.warrior);
}
