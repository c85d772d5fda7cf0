use Rattle.std.proofs.lemmas.Grind.{common_steps}
use Rattle.std.proofs.Common.{◌≡◌, ℕ, ◌*◌, ◌/◌, true, ap, sym, ◌∙◌, arith}
use Rattle.{war_types.specs.declared.settings.RawSettings.RawSettings, mars_core.specs.Round.{after_turns, is_over, reach_of}, mars_core.proofs.Turns.{after_turns-odd, after_turns-over, after_turns-one_kept}}
use Rattle.mars_core.proofs.arena.Arena.whole_turns.Goals.{else-most-gt1-via-then-most-gt1+else-not-is_over, else-most-gt1-via-else-most-gt1}
use Rattle.mars_core.proofs.arena.Arena.whole_turns.Goals as goal

pub passes-requires-then-not-is_over-clause-most : goal.passes-requires-then-not-is_over-clause-most
passes-requires-then-not-is_over-clause-most g c =
    let kept = after_turns-one_kept c.args.self.now c.turns_under-last.new.self c.requires.on c.turns_under-last.ensures.after in
    omega (arith, c.requires.most, c.if-most-eq0.false, kept.1, ap (λ (s : RawSettings). s.cycles) kept.0)

pub passes-requires-then-not-is_over-clause-limits : goal.passes-requires-then-not-is_over-clause-limits
passes-requires-then-not-is_over-clause-limits g c =
    let kept = after_turns-one_kept c.args.self.now c.turns_under-last.new.self c.requires.on c.turns_under-last.ensures.after in
    ap reach_of kept.0 ∙ c.requires.limits

pub returns-then-not-is_over-clause-after : goal.returns-then-not-is_over-clause-after
returns-then-not-is_over-clause-after g c =
    c.passes-then-not-is_over.ensures.after ∙ after_turns-odd c.args.most c.args.self.now c.turns_under-last.new.self c.if-most-eq0.false c.turns_under-last.ensures.after

pub returns-else-most-gt1-clause-after : goal.returns-else-most-gt1-clause-after
returns-else-most-gt1-clause-after g c =
    let turned = c.turns_under-last.ensures.after in
    elim c.else-most-gt1.branch [
      | else-most-gt1-via-then-most-gt1+else-not-is_over w ↦
          (let over : is_over c.turns_under-last.new.self ≡ true = sym w.is_over.ensures.value ∙ w.if-not-is_over.false in
          sym (after_turns-over (2 * (c.args.most / 2)) c.turns_under-last.new.self over) ∙ after_turns-odd c.args.most c.args.self.now c.turns_under-last.new.self c.if-most-eq0.false turned)
      | else-most-gt1-via-else-most-gt1 w ↦
          (let one : 1 ≡ c.args.most = omega (arith, c.if-most-eq0.false, w.if-most-gt1.false) in
          turned ∙ ap (λ (n : ℕ). after_turns n c.args.self.now) one)
    ]

pub returns-then-not-is_over-clause-last : goal.returns-then-not-is_over-clause-last
returns-then-not-is_over-clause-last g c = grind (arith, common_steps)

pub returns-then-most-eq0-clause-after : goal.returns-then-most-eq0-clause-after
returns-then-most-eq0-clause-after g c = grind (arith, common_steps)

pub returns-then-most-eq0-clause-last : goal.returns-then-most-eq0-clause-last
returns-then-most-eq0-clause-last g c = grind (arith, common_steps)
