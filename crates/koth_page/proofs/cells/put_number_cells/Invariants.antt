-- The cells so far are those of the numbers so far.
use Rattle.{std.proofs.Common.{◌≡◌, ◌++◌, take}, koth_page.specs.Cells.number_cells}
use Rattle.koth_page.proofs.cells.put_number_cells.Given as goal

abbrev pub invariant-loop-number : goal.invariant-loop-number
invariant-loop-number g l = l.page.items ≡ l.fn.page.items ++ number_cells (take l.number-index l.numbers)
