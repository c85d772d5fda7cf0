-- the contents of a device's sectors, and what reads, writes and syncs make of them
pub mod Disk
-- what a stop may leave of them
pub mod Image
-- what a run of writes and syncs has made, when it ended early too
pub mod Changes
-- what contracts say of a device, and what holds of each call
pub mod Facts
pub mod Served
-- the devices: in memory, with a fuse, over a file
pub mod Memory
pub mod Fuse
pub mod File
pub mod FileFault
-- laws of images
pub mod Laws
