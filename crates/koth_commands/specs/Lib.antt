-- The three streams, how the program ends, and what it reports of a failure and of its cause.
pub mod Streams
pub mod Status
pub mod Name
pub mod Cause
pub mod Told
pub mod Trouble
pub mod Answer
-- A source with another body for the `EQU` lines of a name.
pub mod Define
-- What sources assemble to.
pub mod Pair
-- What each command writes and how it ends: `explain`, `asm` and `check`.
pub mod Kinds
pub mod Asm
pub mod Report
pub mod Check
