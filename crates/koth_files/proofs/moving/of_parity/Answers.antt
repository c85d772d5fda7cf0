use Rattle.{std.proofs.Common.{◌≢◌, ◌%◌, arith}, hill_bytes.specs.Layout.new_layout, hill_images.proofs.Finds.other_parity}
use Rattle.koth_files.proofs.moving.of_parity.Goals as goal

pub returns-else-generation-from : goal.returns-else-generation-from
returns-else-generation-from c = λ bytes. λ is.
    let other : c.args.header.generation % 2 ≢ c.args.n = grind (arith, c.if-generation-from.false, c.generation.ensures.value, c.from.ensures) in
    other_parity new_layout c.args.n bytes c.args.header other is
