-- which lines of a source are read
pub mod Place
-- the lines that define a name by an EQU, and their bodies
pub mod EquLine
-- a source with another body in the EQU lines of a name
pub mod Define
-- the words of a definition
pub mod Definition
-- the numbers of a range
pub mod Ranges
