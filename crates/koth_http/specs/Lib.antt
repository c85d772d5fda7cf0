-- Which page the target of a request names.
pub mod Target
-- Which host a request is for, and which hosts are answered.
pub mod Host
-- What a browser asks, by the bytes that came from it.
pub mod Asked
-- The tag of a text, by which a browser says that it has that text already.
pub mod Tags
-- What a browser is answered.
pub mod Response
