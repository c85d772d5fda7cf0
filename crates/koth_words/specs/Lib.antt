-- What a command line asks for.
-- the numbers that options have
pub mod Options
-- the settings that words give
pub mod Settings
-- the sources that words name
pub mod Sources
-- where a hill elsewhere is
pub mod Place
-- which part of a work is asked for
pub mod Fraction
-- the requests that command lines make
pub mod Words
