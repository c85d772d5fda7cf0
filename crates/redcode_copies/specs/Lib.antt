-- the counters of blocks, and what a copy of a line is under them
pub mod Counter
-- lines without an &
pub mod Plain
-- what a contract sees of a copy in memory
pub mod Views
