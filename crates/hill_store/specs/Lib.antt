-- the hill that a list of sources earns: every reply and every hill is measured by this
pub mod Earned
-- a store as its caller sees it, and what creating, opening, moving and one submission make of it
pub mod Seen
pub mod Opened
-- a submission that is begun, and fought in steps
pub mod Submission
-- submissions one after another
pub mod Runs
-- what a device holds, said by the sources that earn its hill
pub mod Holding
-- what follows if the results that a store keeps are true
pub mod Kept
-- the life of a device through openings, submissions, faults and stops, and what the calls of a store are in it
pub mod Lives
pub mod Calls
-- what is asked of a store without changing it
pub mod Read
