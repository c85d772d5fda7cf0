use Rattle.{std.proofs.Common.{◌≡◌, ◌∙◌, refl, sym, ap}, war_types.specs.{declared.instr.Modifier.Modifier, declared.instr.Instr.Instr}, mars_operations.specs.Effect.{are_equal, numbers_equal}}
use Rattle.mars_operations.proofs.registers.are_equal.Goals as goal

by_numbers : (modifier : Modifier) (a b : Instr) → (modifier ≡ Modifier.I → ⊥) → numbers_equal modifier a b ≡ are_equal modifier a b
by_numbers Modifier.I a b not = absurd (not refl)
by_numbers Modifier.A a b not = refl
by_numbers Modifier.B a b not = refl
by_numbers Modifier.AB a b not = refl
by_numbers Modifier.BA a b not = refl
by_numbers Modifier.F a b not = refl
by_numbers Modifier.X a b not = refl

pub returns-in-I : goal.returns-in-I
returns-in-I c = c.equals.ensures ∙ ap (λ (m : Modifier). are_equal m c.args.a.instr c.args.b.instr) (sym c.in-I.is)

pub returns-in_default : goal.returns-in_default
returns-in_default c = c.numbers_equal.ensures ∙ by_numbers c.args.modifier c.args.a.instr c.args.b.instr c.in_default.not-I
