pub mod Rows
pub mod Places
pub mod Contents
pub mod Images
pub mod Runs
pub mod Kept
pub mod Choices
pub mod Sectors
