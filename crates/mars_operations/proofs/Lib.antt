pub mod Pairs
pub mod Marks
pub mod Waiting
