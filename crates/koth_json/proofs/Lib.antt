mod Mended
mod Lines
mod ReadsBack
mod Rows
