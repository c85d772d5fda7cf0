-- The pairs of a field, each once, and the rounds of each warrior in them.
pub mod Pairs
pub mod Standings
-- The parts of these pairs, and what their counts are together.
pub mod Parts
-- The text of a part, and parts joined.
pub mod PartText
-- Who is ranked before whom.
pub mod Ranking
