mod Moments
mod Due
mod Causes
mod Turns
mod Outcomes
mod Longest
mod Awaiting
mod Holdings
mod Living
mod Steps
mod Openings
mod Ends
mod Servings
mod Stages
mod Visits
mod Displacing
mod Looking
pub mod Told
