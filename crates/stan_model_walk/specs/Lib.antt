-- ---- nodes
pub mod Nodes
pub mod Findings
-- ---- names
pub mod Scopes
