use Rattle.{std.proofs.Common.{ℕ, ◌<◌, Option, sym, ap, subst, ◌∙◌, arith}, std.specs.Prelude.IfSome, mars_words.specs.Code.field_of, mars_operations.specs.Effect.with_value}
use Rattle.mars_operations.proofs.registers.with_value.Goals as goal

pub with_number-requires : goal.with_number-requires
with_number-requires c = omega (arith, subst (λ (v : Option ℕ). IfSome v (λ n. n < c.args.size)) c.in-Some.is c.requires.value)

pub returns-in-Some-clause-value : goal.returns-in-Some-clause-value
returns-in-Some-clause-value c = c.with_number.ensures.value ∙ ap (λ (v : Option ℕ). with_value (field_of c.args.field) v c.args.target.instr) (sym c.in-Some.is)

pub returns-in-Some-clause-numbers : goal.returns-in-Some-clause-numbers
returns-in-Some-clause-numbers c = c.with_number.ensures.below c.args.size c.requires.target (subst (λ (v : Option ℕ). IfSome v (λ n. n < c.args.size)) c.in-Some.is c.requires.value)

pub returns-in-None-clause-value : goal.returns-in-None-clause-value
returns-in-None-clause-value c = ap (λ (v : Option ℕ). with_value (field_of c.args.field) v c.args.target.instr) (sym c.in-None.is)
