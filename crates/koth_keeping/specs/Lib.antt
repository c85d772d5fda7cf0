-- What a command on a hill answers, and how it ends.
pub mod Answers
-- The seed that is drawn for a hill, and what is told of the default one.
pub mod Seed
-- What each command answers.
pub mod Created
pub mod Audit
pub mod Copies
pub mod Reseeding
pub mod Migration
