pub mod Rows
pub mod Stored
pub mod Titles
