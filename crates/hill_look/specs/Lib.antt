-- what a store that has the hill open may do while its sectors are read
pub mod Meanwhile
-- what was read of a hill meanwhile, and which hill that is
pub mod Looked
-- what the calls of a store are in that
pub mod Laws
