-- What is written of a text, and the line of a source that is refused.
pub mod Written
pub mod Refusal
-- What others wrote, as it stands in a page, and what the bytes of a page are.
pub mod Escape
pub mod Characters
-- Rows of cells, laid out in columns, and the counts of one match.
pub mod Columns
pub mod Pieces
pub mod Tally
pub mod Bout
