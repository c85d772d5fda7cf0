-- for `add_name`
pub mod Sets
-- for `findings_by`
pub mod Findings
-- for `told_all`
pub mod Told
-- the definition on small sources
pub mod Rows
