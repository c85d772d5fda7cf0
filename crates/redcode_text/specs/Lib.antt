-- what a byte may be in a line
pub mod Bytes
-- the tokens of a line
pub mod Tokens
-- the reserved words, and the names of modifiers and modes
pub mod Vocabulary
-- the operators of an expression
pub mod Operators
-- the value of an expression, by where its tokens are split
pub mod Value
-- how the code reads an expression from the left; private clauses alone cite it
pub mod Climbing
