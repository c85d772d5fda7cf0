mod Fought
mod Ranked
mod Parts
mod PartsJoined
