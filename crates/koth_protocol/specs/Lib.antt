-- How a stream's faults are counted, and what is written of a text.
pub mod Counted
pub use Rattle.koth_text.specs.Written
-- From bytes to lines, and from lines to commands.
pub mod Lines
pub mod Commands
-- The lines that a browser sends in place of commands.
pub mod Request
-- What is kept of a line and of a source, and how the commands are found as bytes come.
pub mod Kept
pub mod Reading
-- The lines of the answers that need no store.
pub use Rattle.koth_text.specs.Refusal
pub mod Table
-- The matches of a hill.
pub mod Matches
