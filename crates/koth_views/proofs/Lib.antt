mod Results
mod Rows
pub mod Steps
