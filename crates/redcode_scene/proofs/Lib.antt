-- what is shown of an expansion has the faults that are due
pub mod Shown
-- the first fault stays the first
pub mod First
-- the definition on small sources
mod Rows
-- what is found of all names is what is suggested of them
mod Suggested
-- what is shown of an expansion has its labels
mod Labelled
-- texts of UTF-8, and the names of lines
mod Texts
