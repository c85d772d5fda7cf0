use Rattle.{std.proofs.Common.{◌∙◌, sym, nat_lt}, mars_words.specs.{Numbers.number, Pairs.Pair, Code.pair_of}, mars_operations.proofs.Pairs.{all-one, all-then, all-else}}
use Rattle.mars_operations.proofs.registers.are_less.Goals as goal

pub returns-in-One : goal.returns-in-One
returns-in-One c =
    c.is_less.ensures ∙ all-one (λ (p : Pair). nat_lt (number p.source c.args.a.instr) (number p.target c.args.b.instr)) (pair_of c.in-One.p) _ c.in-One.ensures

pub returns-then-is_less : goal.returns-then-is_less
returns-then-is_less c =
    c.is_less-then-is_less.ensures
    ∙ all-then (λ (p : Pair). nat_lt (number p.source c.args.a.instr) (number p.target c.args.b.instr)) (pair_of c.in-Two.p) (pair_of c.in-Two.q) _ c.in-Two.ensures
    (sym c.is_less-in-Two.ensures ∙ c.if-is_less.true)

pub returns-else-is_less : goal.returns-else-is_less
returns-else-is_less c =
    c.if-is_less.false
    ∙ all-else (λ (p : Pair). nat_lt (number p.source c.args.a.instr) (number p.target c.args.b.instr)) (pair_of c.in-Two.p) (pair_of c.in-Two.q) _ c.in-Two.ensures
    (sym c.is_less-in-Two.ensures ∙ c.if-is_less.false)
