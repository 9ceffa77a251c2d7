-- ---- what functions inside promise each other
pub mod Bases
pub mod FixedBytes
