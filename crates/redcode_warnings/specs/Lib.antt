-- the kinds of warnings, and their names
pub mod Kind
-- which lines of a source are read
pub mod Read
-- the names that lines name
pub mod Named
-- where a warrior starts
pub mod Start
-- labels that are probably misspelt operations, and names that nothing uses
pub mod Label
-- names, authors and assertions
pub mod Titles
-- the warnings of a source
pub mod Warnings
-- what a contract sees of names and findings
pub mod Views
