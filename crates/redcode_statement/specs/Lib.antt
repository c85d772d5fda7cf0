-- one step after another, up to the first fault
pub mod Chain
-- the operands of an instruction, parted by commas
pub mod Sides
-- what a contract sees of tokens in memory
pub mod Views
-- an operand: its mode, and the value of its expression
pub mod Operand
-- the instruction that a line gives
pub mod Instruction
-- what the other lines say
pub mod Statement
-- the line of an instruction in a load text
pub mod InstrLine
