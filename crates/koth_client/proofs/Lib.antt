pub mod Lines
pub mod Buffers
mod Rows
