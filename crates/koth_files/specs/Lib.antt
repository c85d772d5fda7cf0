-- What is told of a hill's file that can't be worked on.
pub mod Trouble
-- What is told of a device whose hill is not opened, and of a hill of the old format.
pub mod OldHill
-- What is told of a file from which no hill can be moved.
pub mod Moving
-- What is told of a hill that was looked at and isn't shown, and what it has lost.
pub mod Looking
