-- The warriors of a field, each with what messages call its source.
pub mod Field
-- What tells a field from others.
pub mod Digest
