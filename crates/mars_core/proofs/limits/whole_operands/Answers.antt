use Rattle.{std.proofs.Common.{◌≡◌, ap, ap₂, ◌∙◌, sym, Bool, true, false, ◌&&◌, refl}}
use Rattle.{mars_words.specs.Words.is_plain, mars_core.specs.{Whole.operand, Code.{operand_of}}}
use Rattle.mars_core.proofs.Executions.{both}
use Rattle.mars_core.proofs.limits.whole_operands.Goals as goal

-- of two tests that both hold each one holds
first-holds : (a b both : Bool) → both ≡ (a && b) → both ≡ true → a ≡ true
first-holds true b both e t = refl
first-holds false b both e t = sym e ∙ t

second-holds : (a b both : Bool) → both ≡ (a && b) → both ≡ true → b ≡ true
second-holds true b both e t = sym e ∙ t
second-holds false b both e t = cc

pub plain-b-requires-clause-plain : goal.plain-b-requires-clause-plain
plain-b-requires-clause-plain g c = ap is_plain c.b_mode.ensures ∙ second-holds _ _ _ c.is_plain.ensures c.if-is_plain.true

pub returns-then-is_plain-clause-value : goal.returns-then-is_plain-clause-value
returns-then-is_plain-clause-value g c =
    let at = operand c.args.size c.args.core.now c.args.pc in
    both c.args.size c.args.pc c.args.i.instr c.args.core.now c.args.core.now c.args.core.now (operand_of c.plain-a.result) (operand_of c.plain-b.result)
    (ap₂ at (sym c.a_mode.ensures) (sym c.number.ensures.value) ∙ c.plain-a.ensures.value)
    (ap₂ at (sym c.b_mode.ensures) (sym c.number-then-is_plain.ensures.value) ∙ c.plain-b.ensures.value)

pub returns-else-is_plain-clause-value : goal.returns-else-is_plain-clause-value
returns-else-is_plain-clause-value g c =
    both c.args.size c.args.pc c.args.i.instr c.args.core.now c.evaluate-a.new.core c.evaluate-b.new.core (operand_of c.evaluate-a.result) (operand_of c.evaluate-b.result)
    (ap₂ (operand c.args.size c.args.core.now c.args.pc) (sym c.a_mode-else-is_plain.ensures) (sym c.number-else-is_plain.ensures.value) ∙ c.evaluate-a.ensures.value)
    (ap₂ (operand c.args.size c.evaluate-a.new.core c.args.pc) (sym c.b_mode-else-is_plain.ensures) (sym c.number-else-is_plain-2.ensures.value) ∙ c.evaluate-b.ensures.value)

pub plain-a-requires-clause-number : goal.plain-a-requires-clause-number
plain-a-requires-clause-number g c = c.number.ensures.below c.args.size c.requires.numbers

pub plain-b-requires-clause-number : goal.plain-b-requires-clause-number
plain-b-requires-clause-number g c = c.number-then-is_plain.ensures.below c.args.size c.requires.numbers

pub evaluate-a-requires-clause-number : goal.evaluate-a-requires-clause-number
evaluate-a-requires-clause-number g c = c.number-else-is_plain.ensures.below c.args.size c.requires.numbers

pub evaluate-b-requires-clause-number : goal.evaluate-b-requires-clause-number
evaluate-b-requires-clause-number g c = c.number-else-is_plain-2.ensures.below c.args.size c.requires.numbers

pub plain-a-requires-clause-plain : goal.plain-a-requires-clause-plain
plain-a-requires-clause-plain g c = ap is_plain c.a_mode.ensures ∙ first-holds _ _ _ c.is_plain.ensures c.if-is_plain.true
