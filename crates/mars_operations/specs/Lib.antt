-- Cells, the evaluation of an operand with limits and without, what each operation does.
pub mod Cells
pub mod Operand
pub mod Whole
pub mod Effect
-- Of the code alone: what its values mean, the cells that were written, and the queues that it keeps.
pub mod Code
pub mod Marks
pub mod Queue
