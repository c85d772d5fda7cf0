mod Ascii
mod Markup
mod Nameless
mod Rows
mod Seed
mod Steps
