pub mod Ascii
mod Escapes
pub mod KindNames
pub mod Markup
pub mod Parts
mod Rows
pub mod Steps
