-- Rows of cells, laid out in columns.
pub use Rattle.koth_text.specs.Columns
-- Rounds that one entry won, lost and tied against others.
pub mod Tally
-- The table of a hill, its matches, and the counts of one match.
pub mod Standing
pub mod Matrix
pub use Rattle.koth_text.specs.Bout
-- What became of a warrior that was submitted.
pub mod Roster
pub mod Placed
-- What a challenger that falls is told of those that stay.
pub mod Fallen
