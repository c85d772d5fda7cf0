use Rattle.{std.proofs.Common.arith, hill_images.proofs.Finds.{newest_even, newest_odd}}
use Rattle.hill_images.proofs.found.later.Goals as goal

pub returns-then-generation : goal.returns-then-generation
returns-then-generation c = λ layout. λ image. λ even. λ odd. newest_odd layout image c.args.even c.args.odd even odd (omega (arith, c.if-generation.true, c.generation.ensures.value, c.generation-2.ensures.value))

pub returns-else-generation : goal.returns-else-generation
returns-else-generation c = λ layout. λ image. λ even. λ odd. newest_even layout image c.args.even c.args.odd even odd (omega (arith, c.if-generation.false, c.generation.ensures.value, c.generation-2.ensures.value))
