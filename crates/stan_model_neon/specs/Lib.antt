-- ---- what the contract of the reader rests on
pub mod Characters
pub mod Nodes
pub mod Outlines
