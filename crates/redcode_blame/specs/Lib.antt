-- the part of a line that is told
pub mod Place
