pub mod Seeds
pub mod Match
