-- the definition: the walk over the lines of a source, in the order in which they are written out
pub mod Walk
-- and its result, with the names of EQUs replaced
pub mod Expansion
-- what the code keeps of a walk, and shows of an expansion
pub mod Cut
-- laws that hold of them
pub mod Laws
-- what the code keeps: what is left of a source within blocks that are open
pub mod Rest
-- counts that were worked out
pub mod Kept
-- what it knows of lines before it reads them
pub mod Marks
-- what a step is
pub mod Steps
-- the steps that an expansion takes
pub mod Taken
-- those of what is left within blocks that are open
pub mod Left
-- the most steps that it takes
pub mod Budget
