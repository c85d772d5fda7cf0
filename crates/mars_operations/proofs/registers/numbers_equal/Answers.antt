use Rattle.{std.proofs.Common.{◌∙◌, ℕ, ◌==◌, sym, ap₂, ne_eqb}, mars_words.specs.{Numbers.number, Pairs.Pair, Code.pair_of}, mars_operations.proofs.Pairs.{all-one, equal-then, equal-else}}
use Rattle.mars_operations.proofs.registers.numbers_equal.Goals as goal

pub returns-in-One : goal.returns-in-One
returns-in-One c =
    ap₂ (λ (m n : ℕ). m == n) c.number.ensures.value c.number-in-One.ensures.value
    ∙ all-one (λ (p : Pair). number p.source c.args.a.instr == number p.target c.args.b.instr) (pair_of c.in-One.p) _ c.in-One.ensures

pub returns-then-number : goal.returns-then-number
returns-then-number c =
    ap₂ (λ (m n : ℕ). m == n) c.number-then-number.ensures.value c.number-then-number-2.ensures.value
    ∙ equal-then (λ (p : Pair). number p.source c.args.a.instr) (λ (p : Pair). number p.target c.args.b.instr) (pair_of c.in-Two.p) (pair_of c.in-Two.q) _ c.in-Two.ensures
    (sym c.number-in-Two.ensures.value ∙ (c.if-number.true ∙ c.number-in-Two-2.ensures.value))

pub returns-else-number : goal.returns-else-number
returns-else-number c =
    ne_eqb _ _ c.if-number.false
    ∙ equal-else (λ (p : Pair). number p.source c.args.a.instr) (λ (p : Pair). number p.target c.args.b.instr) (pair_of c.in-Two.p) (pair_of c.in-Two.q) _ c.in-Two.ensures
    (λ e. c.if-number.false (c.number-in-Two.ensures.value ∙ (e ∙ sym c.number-in-Two-2.ensures.value)))
