mod OfSystem
mod Moves
mod Steady
mod Takings
mod Same
mod Calls
mod Seen
