mod Growing
mod Once
mod Pushed
mod Told
