mod Asks
mod Shared
