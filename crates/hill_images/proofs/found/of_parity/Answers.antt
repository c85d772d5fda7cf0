use Rattle.{std.proofs.Common.{◌≢◌, ◌%◌, arith}, hill_bytes.specs.Layout.layout_of, hill_images.proofs.Finds.other_parity}
use Rattle.hill_images.proofs.found.of_parity.Goals as goal

pub returns-else-generation-from : goal.returns-else-generation-from
returns-else-generation-from c = λ bytes. λ is.
    let other : c.args.header.generation % 2 ≢ c.args.n = grind (arith, c.if-generation-from.false, c.generation.ensures.value, c.from.ensures) in
    other_parity (layout_of c.args.format) c.args.n bytes c.args.header other is
