mod Left
pub mod Shared
mod Added
mod Joined
mod PartsJoined
mod Sorted
mod Rows
