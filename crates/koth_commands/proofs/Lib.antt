pub mod Checks
mod Ends
mod Parts
mod Reports
mod Sources
pub mod Told
