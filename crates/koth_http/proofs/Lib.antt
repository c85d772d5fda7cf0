pub mod Numbers
pub mod Targets
mod HostRows
