-- the kinds, what they are called, and the lines that they name
pub mod Kinds
-- what is written of them
pub mod Explained
