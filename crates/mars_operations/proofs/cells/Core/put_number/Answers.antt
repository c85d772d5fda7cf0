use Rattle.mars_operations.proofs.cells.Core.put_number.Goals as goal

pub put-requires-clause-numbers : goal.put-requires-clause-numbers
put-requires-clause-numbers g c = c.with_number.ensures.below c.args.size c.cell.ensures.numbers c.requires.number
