-- a hill with its members, and their points by the results of all pairs
pub mod Hill
-- the order of points, ranks and the rows of the table
pub mod Scores
pub mod Table
pub mod Rows
-- one step of a hill: a challenger comes, and the lowest falls
pub mod Step
-- the same with a result kept of each pair, in place of a match fought again
pub mod Kept
pub mod Standings
-- a challenge that is fought in steps
pub mod Challenge
-- laws of hills, for every hill and every warrior
pub mod Laws
