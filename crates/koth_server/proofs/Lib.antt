mod Carried
mod Logged
mod Performed
mod Statuses
