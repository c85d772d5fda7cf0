-- the lines of instructions
pub mod Lines
-- the listing
pub mod Listing
