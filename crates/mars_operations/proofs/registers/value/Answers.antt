use Rattle.{std.proofs.Common.{ap₂, ◌∙◌}, mars_words.specs.{Numbers.combined, Code.arithmetic_of}}
use Rattle.mars_operations.proofs.registers.value.Goals as goal

pub returns-clause-value : goal.returns-clause-value
returns-clause-value c = c.combined.ensures.value ∙ ap₂ (combined c.args.size (arithmetic_of c.args.arithmetic)) c.number.ensures.value c.number-2.ensures.value

pub combined-requires-clause-x : goal.combined-requires-clause-x
combined-requires-clause-x c = c.number-2.ensures.below c.args.size c.requires.a

pub combined-requires-clause-y : goal.combined-requires-clause-y
combined-requires-clause-y c = c.number.ensures.below c.args.size c.requires.b
