-- What a service writes before it serves, and how it ends.
pub mod Serving
-- The pages that browsers ask for.
pub mod Sign
pub mod Pages
-- The settings under which a command is carried out.
pub mod Settled
-- How a session over standard input and output ends.
pub mod Session
-- The number that a run leaves with.
pub mod Run
