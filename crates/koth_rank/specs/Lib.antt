-- The matches of a field, each pair's once.
pub mod Matches
-- What is written of the field when all have fought: a part, or the table.
pub mod Part
pub mod Table
-- How the command ends.
pub mod Rank
-- How parts are joined.
pub mod Join
