-- What is kept of each peer beside its session, by the numbers of the peers, and for how long.
pub mod Seats
