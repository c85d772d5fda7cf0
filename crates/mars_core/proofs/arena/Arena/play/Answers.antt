use Rattle.{std.proofs.Common.{◌≡◌, ℕ, ◌-◌, ◌*◌, ◌≤◌, true, ap, sym, ◌∙◌, arith}, mars_core.specs.Round.{Round, after_turns, is_over}, mars_core.proofs.Turns.{after_turns-over, after_turns-end}}
use Rattle.mars_core.proofs.arena.Arena.play.Goals.{then-not-is_over, else-not-is_over}
use Rattle.mars_core.proofs.arena.Arena.play.Goals as goal

pub returns-clause-after : goal.returns-clause-after
returns-clause-after g c =
    let r : Round = c.args.self.now in
    elim c.if-not-is_over.branch [
      | then-not-is_over w ↦
          (let count : 2 * w.cycles.result - c.self.inside.used ≡ 2 * r.settings.cycles - r.used =
          ap (λ (cycles : ℕ). 2 * cycles - c.self.inside.used) w.cycles.ensures.value ∙ ap (λ (r : Round). 2 * r.settings.cycles - r.used) c.self.view_is in
          w.self-is ∙ (w.turns.ensures.after ∙ ap (λ (n : ℕ). after_turns n r) count))
      | else-not-is_over w ↦
          (let over : is_over r ≡ true = sym c.is_over.ensures.value ∙ w.if-not-is_over.false in
          w.self-is ∙ sym (after_turns-over (2 * r.settings.cycles - r.used) r over))
    ]

pub returns-clause-over : goal.returns-clause-over
returns-clause-over g c =
    let r : Round = c.args.self.now in
    let left = 2 * r.settings.cycles - r.used in
    let within : 2 * r.settings.cycles - r.used ≤ left = omega arith in
    ap is_over (returns-clause-after g c) ∙ after_turns-end left r within
