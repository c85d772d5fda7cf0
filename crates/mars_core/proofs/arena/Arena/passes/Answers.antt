use Rattle.std.proofs.lemmas.Grind.{common_steps}
use Rattle.{std.proofs.Common.{◌≡◌, false, sym, subst, ℕ, ◌≤◌, ap, subst₂, ◌∙◌, arith}, mars_core.specs.{Cells.IsCore, Operand.Reach, Round.{Round, is_over, IsQueue}, Arena.round_in}}
use Rattle.mars_core.proofs.Turns.{both_sides_live}
use Rattle.mars_core.proofs.arena.Arena.passes.Goals as goal

pub passes-left-requires : goal.passes-left-requires
passes-left-requires g c =
    let a = c.self.inside in
    let size : a.settings.core ≡ c.args.size = ap (λ (r : Round). r.settings.core) c.self.view_is ∙ ap (λ (r : Reach). r.size) c.requires.limits in
    let lives = both_sides_live (round_in a.settings a.core a.first.addresses a.second.addresses a.to_move a.used) (subst (λ (r : Round). is_over r ≡ false) (sym c.self.view_is) c.requires.on) in
    record {
      wide = subst (λ (n : ℕ). 2 ≤ n) size (omega (arith, c.self.invariant.round.settings.core_least));
      core = subst (λ (n : ℕ). IsCore n a.core) size c.self.invariant.round.core;
      first = subst₂ (λ (n limit : ℕ). IsQueue n limit a.first.addresses) size (sym c.self.invariant.first_limit) c.self.invariant.round.first;
      second = subst₂ (λ (n limit : ℕ). IsQueue n limit a.second.addresses) size (sym c.self.invariant.second_limit) c.self.invariant.round.second;
      first_lives = lives.0;
      second_lives = lives.1;
      most = omega (arith, c.requires.most, ap (λ (r : Round). r.settings.cycles) c.self.view_is, c.self.invariant.round.settings.cycles_most);
    }

pub invariant_of-self : goal.invariant_of-self
invariant_of-self g c = grind (arith, common_steps)

pub returns-clause-after : goal.returns-clause-after
returns-clause-after g c = grind (arith, common_steps)
