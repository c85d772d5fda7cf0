-- The round that is asked for.
pub mod Asked
-- Its page, and what is said of it.
pub mod Page
-- How a command of a round ends.
pub mod Ends
pub mod Replay
-- The turns of a round, as text or as JSON.
pub mod Turns
pub mod Trace
