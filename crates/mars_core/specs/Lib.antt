-- The numbers of an instruction, the pairs of a modifier, and when instructions are equal.
pub use Rattle.mars_words.specs.Numbers
pub use Rattle.mars_words.specs.Pairs
pub use Rattle.mars_words.specs.Equal
-- Cells, the evaluation of an operand, what each operation does.
pub use Rattle.mars_operations.specs.Cells
pub use Rattle.mars_operations.specs.Operand
pub use Rattle.mars_operations.specs.Effect
-- Turns and rounds, and the round in an arena.
pub mod Round
pub mod Arena
-- What a turn leaves as it was.
pub mod Touched
-- Operands and turns without limits, and that they are the same.
pub mod Whole
pub mod Passes
pub mod Laws
-- Of the code alone, for private contracts: what its values mean, words, the queues that it keeps, and windows before
-- them.
pub mod Code
pub use Rattle.mars_words.specs.Words
pub use Rattle.mars_operations.specs.Queue
pub mod Window
