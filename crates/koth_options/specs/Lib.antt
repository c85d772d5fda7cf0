-- The commands, as `clap` reads them.
-- the options that give settings
pub mod Options
-- the commands
pub mod Commands
-- what the tables of commands and arguments stand for
pub mod Arguments
