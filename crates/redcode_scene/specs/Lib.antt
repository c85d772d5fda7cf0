-- the faults of a source's lines that are told
pub mod Faults
-- the name that is told as the one that was meant
pub mod Nearest
-- what the search for it keeps
pub mod Search
-- the line that is told as the one that defines a name
pub mod Definer
