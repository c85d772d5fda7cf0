-- what names stand for on a line
pub mod Names
-- what an expanded line says
pub mod Said
-- the assembly of a source: the warrior, or the first fault
pub mod Assembly
-- the same within a budget of steps
pub mod Within
-- the load text of a warrior
pub mod LoadText
-- the assembler reads a load text back
pub mod RoundTrip
