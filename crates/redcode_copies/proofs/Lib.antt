pub mod PlainLines
pub mod WrittenLines
mod Joining
