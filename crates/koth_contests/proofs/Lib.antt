mod Answered
mod Due
mod Fought
mod Found
pub mod Meetings
pub mod Written
pub mod Taken
