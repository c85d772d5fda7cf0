use Rattle.{std.proofs.{Common.{◌≡◌, ◌+◌, ◌≤◌, ◌++◌, ◌∷◌, ◌∙◌, [], inr, ℕ, ap, arith, length, subst}, lemmas.List.length_push}, koth_match.specs.{declared.bout.Bout.Bout, Match.match_of}}
use Rattle.koth_hill.proofs.challenge.Challenge.fight_on.Goals as goal

pub returns-then-left-eq0-clause-fought : goal.returns-then-left-eq0-clause-fought
unfolding match_of
returns-then-left-eq0-clause-fought g c =
    let all : c.play.new.self.round ≡ c.args.settings.now.rounds =
    omega (arith, c.if-left-eq0.true, c.left.ensures.value, c.play.ensures.played.rounds) in
    let last : c.args.settings.now.rounds ≤ c.args.self.now.under_way.round + c.rounds_of_step-most.result = omega (arith, all, c.play.ensures.rounds) in
    inr (record {
      step = record {
        bouts = ap length c.push.ensures ∙ length_push c.args.self.now.bouts c.bout.result;
        last = subst (λ (n : ℕ). c.args.settings.now.rounds ≤ c.args.self.now.under_way.round + n) c.rounds_of_step-most.ensures.value last;
        round = c.new-self.ensures.rounds;
      };
      fought = c.push.ensures ∙ ap (λ (b : Bout). c.args.self.now.bouts ++ b ∷ []) (c.bout.ensures ∙ rw all at c.play.ensures.played.bout);
      next = λ other. c.new-self.ensures.played other c.args.challenger.now;
    })
