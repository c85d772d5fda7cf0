-- What a contest of one warrior against another brings, in counts and points; the lines of contests.
pub mod Contest
pub mod Lines
-- The rounds of a match, each with what is told of it.
pub mod Rounds
-- Two warriors, and how a command of their match ends.
pub mod Pair
-- One warrior against others.
pub mod Met
pub mod Opponents
-- What `fight` writes and how it ends.
pub mod Fight
