pub mod Written
pub mod Replies
pub mod Lists
pub mod Holdings
pub mod Living
pub mod Newest
pub mod Decided
pub mod Moving
pub mod Eventful
pub mod Counting
pub mod Fought
pub mod Submitting
mod Copying
