use Rattle.{std.proofs.Common.{ℕ, ap, ◌∙◌}, mars_words.specs.{Numbers.{minus, with_number}, Code.field_of}}
use Rattle.mars_operations.proofs.registers.lowered.Goals as goal

pub returns-clause-value : goal.returns-clause-value
returns-clause-value c =
    c.with_number.ensures.value
    ∙ ap (λ (n : ℕ). with_number (field_of c.args.field) n c.args.i.instr) (c.minus.ensures.value ∙ ap (λ (n : ℕ). minus c.args.size n 1) c.number.ensures.value)

pub returns-clause-numbers : goal.returns-clause-numbers
returns-clause-numbers c = c.with_number.ensures.below c.args.size c.requires.numbers c.minus.ensures.below

pub minus-requires-clause-m : goal.minus-requires-clause-m
minus-requires-clause-m c = c.number.ensures.below c.args.size c.requires.numbers
