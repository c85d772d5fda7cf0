mod Lines
pub mod Readings
pub mod ShownTexts
pub mod SourceLines
