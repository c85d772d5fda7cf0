use Rattle.{std.proofs.Common.{◌∙◌, ℕ, ◌==◌, sym, ap, ne_eqb}, mars_words.specs.{Numbers.{minus, number}, Pairs.Pair, Code.pair_of}, mars_operations.proofs.Pairs.{all-one, equal-then, equal-else}}
use Rattle.mars_operations.proofs.registers.fall_to_zero.Goals as goal

pub returns-in-One : goal.returns-in-One
returns-in-One c =
    ap (λ (n : ℕ). n == 0) (c.minus.ensures.value ∙ ap (λ (n : ℕ). minus c.args.size n 1) c.number.ensures.value)
    ∙ all-one (λ (p : Pair). minus c.args.size (number p.target c.args.b.instr) 1 == 0) (pair_of c.in-One.p) _ c.in-One.ensures

pub returns-then-minus-eq0 : goal.returns-then-minus-eq0
returns-then-minus-eq0 c =
    let first = c.minus-in-Two.ensures.value ∙ ap (λ (n : ℕ). minus c.args.size n 1) c.number-in-Two.ensures.value in
    ap (λ (n : ℕ). n == 0) (c.minus-then-minus-eq0.ensures.value ∙ ap (λ (n : ℕ). minus c.args.size n 1) c.number-then-minus-eq0.ensures.value)
    ∙ equal-then (λ (p : Pair). minus c.args.size (number p.target c.args.b.instr) 1) (λ p. 0) (pair_of c.in-Two.p) (pair_of c.in-Two.q) _ c.in-Two.ensures (sym first ∙ c.if-minus-eq0.true)

pub returns-else-minus-eq0 : goal.returns-else-minus-eq0
returns-else-minus-eq0 c =
    let first = c.minus-in-Two.ensures.value ∙ ap (λ (n : ℕ). minus c.args.size n 1) c.number-in-Two.ensures.value in
    ne_eqb _ _ c.if-minus-eq0.false
    ∙ equal-else (λ (p : Pair). minus c.args.size (number p.target c.args.b.instr) 1) (λ p. 0) (pair_of c.in-Two.p) (pair_of c.in-Two.q) _ c.in-Two.ensures (λ e. c.if-minus-eq0.false (first ∙ e))

pub minus-requires-clause-m : goal.minus-requires-clause-m
minus-requires-clause-m c = c.number.ensures.below c.args.size c.requires.b

pub minus-requires-in-Two-clause-m : goal.minus-requires-in-Two-clause-m
minus-requires-in-Two-clause-m c = c.number-in-Two.ensures.below c.args.size c.requires.b

pub minus-requires-then-minus-eq0-clause-m : goal.minus-requires-then-minus-eq0-clause-m
minus-requires-then-minus-eq0-clause-m c = c.number-then-minus-eq0.ensures.below c.args.size c.requires.b
