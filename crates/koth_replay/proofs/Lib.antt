pub mod Drawing
pub mod Endings
mod Falls
pub mod Histories
mod Rows
mod Steps
mod Untold
mod Writers
