-- Pictures of a round, and how events change them.
pub mod Picture
-- The events of a turn; a round of a match as a replay has it.
pub mod Turn
pub mod Replay
-- Why a round ended as it did.
pub mod Story
-- Of the code alone, for private contracts.
pub mod Code
pub mod Ending
