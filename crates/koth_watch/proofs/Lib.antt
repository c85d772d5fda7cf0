mod Steps
mod Bytes
mod Markup
