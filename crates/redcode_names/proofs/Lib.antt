mod Lookups
pub mod Replacing
pub mod Unchanged
pub mod Cut
pub mod Steps
