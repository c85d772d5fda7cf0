-- What turns keep, and the counts of rounds.
pub mod Kept
mod Rows
mod Sequence
