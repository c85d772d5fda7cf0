-- The numbers of an instruction, the pairs of a modifier, and when instructions are equal.
pub mod Numbers
pub mod Pairs
pub mod Equal
-- Of the code alone: what its values mean, and the words of cells.
pub mod Code
pub mod Kinds
pub mod Words
