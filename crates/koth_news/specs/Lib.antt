-- A string of JSON for any bytes, in ASCII.
pub mod Strings
-- The names of fields.
pub mod Keys
-- An object of JSON on one line.
pub mod Objects
-- The lines of a service's log.
pub mod Logged
