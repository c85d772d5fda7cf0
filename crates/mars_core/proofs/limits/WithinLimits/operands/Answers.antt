use Rattle.{std.proofs.Common.{◌≡◌, ℕ, List, sym, ap, ap₂, ◌∙◌}, war_types.specs.declared.instr.Instr.Instr}
use Rattle.mars_core.specs.{Operand.{Reach, Operand, Evaluated, evaluated, operand}, Code.{Operands, evaluated_both, operand_of, operands}}
use Rattle.mars_core.proofs.limits.WithinLimits.operands.Goals as goal

-- both operands, by the one after the other
both : (reach : Reach) (pc : ℕ) (i : Instr) (core core1 core2 : List Instr) (a b : Operand) → operand reach core pc i.a_mode i.a ≡ evaluated a core1 → operand reach core1 pc i.b_mode i.b ≡ evaluated b core2 →
    operands reach core pc i ≡ evaluated_both a b core2
both reach pc i core core1 core2 a b one two =
    let rest : Evaluated → Operands = λ (e : Evaluated). let x = operand reach e.core pc i.b_mode i.b in evaluated_both e.operand x.operand x.core in
    ap rest one ∙ ap (λ (e : Evaluated). evaluated_both a e.operand e.core) two

pub returns-clause-value : goal.returns-clause-value
returns-clause-value g c =
    both c.args.self c.args.pc c.args.i.instr c.args.core.now c.evaluate-a.new.core c.evaluate-b.new.core (operand_of c.evaluate-a.result) (operand_of c.evaluate-b.result)
    (ap₂ (operand c.args.self c.args.core.now c.args.pc) (sym c.a_mode.ensures) (sym c.number.ensures.value) ∙ c.evaluate-a.ensures.value)
    (ap₂ (operand c.args.self c.evaluate-a.new.core c.args.pc) (sym c.b_mode.ensures) (sym c.number-2.ensures.value) ∙ c.evaluate-b.ensures.value)

pub evaluate-a-requires-clause-number : goal.evaluate-a-requires-clause-number
evaluate-a-requires-clause-number g c = c.number.ensures.below c.args.size c.requires.numbers

pub evaluate-b-requires-clause-number : goal.evaluate-b-requires-clause-number
evaluate-b-requires-clause-number g c = c.number-2.ensures.below c.args.size c.requires.numbers
