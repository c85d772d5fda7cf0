-- What others wrote, as it stands in a page.
pub use Rattle.koth_text.specs.Characters
pub use Rattle.koth_text.specs.Escape
-- What the page says that the hill doesn't know.
pub mod Sign
-- Numbers and names in the cells of a table, and how cells of matches are coloured.
pub mod Cells
pub mod Shade
-- The rows of the tables, and those of a hill.
pub mod Ranked
pub mod Entered
-- The title, the king, and how to submit.
pub mod Top
-- The settings, the table, and the matches.
pub mod Settings
pub mod Standing
pub mod Matches
pub mod Tables
-- The page of a hill and the one of a ranking, and what holds of every page.
pub mod Page
pub mod Ranking
pub mod Laws
