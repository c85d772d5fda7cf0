use Rattle.std.proofs.Common.{arith}
use Rattle.mars_operations.proofs.operand.indirect.Goals as goal

pub plus-requires-clause-n : goal.plus-requires-clause-n
plus-requires-clause-n g c = omega (arith, c.number.ensures.below c.args.size c.cell-through.ensures.numbers)
