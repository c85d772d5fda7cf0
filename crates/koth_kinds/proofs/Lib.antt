mod Each
mod Texts
