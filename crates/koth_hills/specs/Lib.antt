-- How the program ends with a reply.
pub mod ReplyStatus
-- The lines of JSON of a submission.
pub mod Json
-- What became of a submission.
pub mod Placing
-- The settings of a hill, as options.
pub mod Settings
-- How wide a text is.
pub mod Width
-- What each command on a hill writes and how it ends.
pub mod Hills
-- What `try` writes, and how it ends.
pub mod Trials
pub mod Page
