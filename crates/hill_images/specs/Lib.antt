-- which hill an image stands for, in either layout
pub mod Stands
-- what a submission writes, and in which order
pub mod Places
-- what opening finds: the headers, the hill that one names, and its warriors
pub mod Found
pub mod Named
pub mod Reading
-- what opening a hill, and writing one to a device that holds none, make of a device
pub mod Opening
pub mod Writing
-- laws of what is stored, for all bytes and every image
pub mod Laws
-- what a hill has lost
pub mod Damage
