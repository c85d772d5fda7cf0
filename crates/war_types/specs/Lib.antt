-- which settings a hill may have
pub mod Settings
-- how a fault is named in a refusal
pub mod Fault
-- an instruction as eight bytes
pub mod Bytes
-- the title of a warrior or of its author
pub mod Title
-- what a warrior is, and which settings it fits
pub mod Warrior
