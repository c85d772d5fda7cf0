-- the lines of a source, and its directives
pub mod Source
-- how a line is read: its word, its labels and the rest
pub mod Line
-- the blocks that lines make
pub mod Block
-- which tokens of an expanded line are operands
pub mod Operand
-- the text of a line, and a place in it
pub mod Place
-- a text as a terminal may have it
pub mod Shown
-- what a contract sees of a line in memory
pub mod Views
