-- for `first_line`
pub mod LineFeeds
-- for `first_place` and `lines_defined`
pub mod Places
-- the definition on small sources
mod Rows
