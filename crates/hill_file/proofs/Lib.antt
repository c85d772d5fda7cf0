-- an error of the system becomes a fault of the system's: for each function that hands one on by `?`
pub mod OfSystem
-- what a careful device has done, step by step: for each of its functions
pub mod Steps
-- zeros that are read one part after another
mod Taken
