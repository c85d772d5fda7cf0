-- which fault of opening an error of the system is, and which faults are the system's
pub mod OpenFault
-- what is done with a file of sectors
pub mod Done
-- what a careful device has done with its file
pub mod Careful
-- the zeros that a file holds
pub mod Zeros
