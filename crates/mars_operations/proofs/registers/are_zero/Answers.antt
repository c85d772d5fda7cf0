use Rattle.{std.proofs.Common.{◌∙◌, ℕ, ◌==◌, sym, ap, ne_eqb}, mars_words.specs.{Numbers.number, Pairs.Pair, Code.pair_of}, mars_operations.proofs.Pairs.{all-one, equal-then, equal-else}}
use Rattle.mars_operations.proofs.registers.are_zero.Goals as goal

pub returns-in-One : goal.returns-in-One
returns-in-One c =
    ap (λ (n : ℕ). n == 0) c.number.ensures.value ∙ all-one (λ (p : Pair). number p.target c.args.b.instr == 0) (pair_of c.in-One.p) _ c.in-One.ensures

pub returns-then-number-eq0 : goal.returns-then-number-eq0
returns-then-number-eq0 c =
    ap (λ (n : ℕ). n == 0) c.number-then-number-eq0.ensures.value
    ∙ equal-then (λ (p : Pair). number p.target c.args.b.instr) (λ p. 0) (pair_of c.in-Two.p) (pair_of c.in-Two.q) _ c.in-Two.ensures (sym c.number-in-Two.ensures.value ∙ c.if-number-eq0.true)

pub returns-else-number-eq0 : goal.returns-else-number-eq0
returns-else-number-eq0 c =
    ne_eqb _ _ c.if-number-eq0.false
    ∙ equal-else (λ (p : Pair). number p.target c.args.b.instr) (λ p. 0) (pair_of c.in-Two.p) (pair_of c.in-Two.q) _ c.in-Two.ensures (λ e. c.if-number-eq0.false (c.number-in-Two.ensures.value ∙ e))
