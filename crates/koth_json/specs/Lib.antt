-- A string of JSON for any bytes.
pub mod Strings
-- The names of fields.
pub mod Keys
-- An object of JSON on one line.
pub mod Objects
-- The lines of `fight`.
pub mod Contest
-- The lines of `show`.
pub mod Hill
-- A hill as one object, which a service shows to programs.
pub mod Data
-- The lines of `submit`, `try` and `audit`.
pub mod Reply
-- The lines of `check`, and of a source that is refused.
pub mod Finding
