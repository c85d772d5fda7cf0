use Rattle.{std.proofs.Common.{sym, arith}, redcode_text.proofs.Numbers.number_value-overflow}
use Rattle.redcode_text.proofs.expression.number_value.Goals as goal

pub returns-then-number-unit : goal.returns-then-number-unit
returns-then-number-unit c =
    sym (number_value-overflow c.loop-digit.number c.args.digits.now c.loop-digit.digit-index (omega arith) c.loop-digit.invariant.0 (grind arith))
