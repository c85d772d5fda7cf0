use Rattle.{std.proofs.Common.{ℕ, ap, ◌∙◌}, mars_core.specs.{Whole.whole, Code.operands}, mars_core.proofs.Reaches.operands-whole}
use Rattle.mars_core.proofs.limits.WholeLimits.operands.Goals as goal

pub returns-clause-value : goal.returns-clause-value
returns-clause-value g c =
    ap (λ (n : ℕ). operands (whole n) c.args.core.now c.args.pc c.args.i.instr) c.requires.size
    ∙ operands-whole c.args.size c.args.pc c.args.core.now c.args.i.instr c.requires.pc
    ∙ c.whole_operands.ensures.value
