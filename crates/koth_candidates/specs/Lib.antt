-- Where a candidate's source ends, and what is answered to it.
pub mod Sources
pub mod Answers
-- How the command ends.
pub mod Candidates
