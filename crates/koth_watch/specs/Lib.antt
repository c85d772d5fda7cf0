-- An instruction in the data of a page, and the data: the events of a round.
pub mod Instruction
pub mod Data
-- How a round ended, and why, in a sentence.
pub mod Shown
pub mod Sentence
-- What a page says of its round in words.
pub mod Heading
-- The page, and what holds of every page.
pub mod Page
pub mod Laws
