-- the layout of a header and of a slot, in both formats, byte by byte
pub mod Layout
