pub mod Answering
mod Endings
pub mod Exchanges
pub mod Fights
mod FirstDue
pub mod Holding
mod Lengths
pub mod Living
mod PeerReads
mod PeerRows
mod Readings
mod SessionRows
mod Slots
mod Spoken
pub mod Standing
pub mod Steps
mod Streams
mod Submissions
