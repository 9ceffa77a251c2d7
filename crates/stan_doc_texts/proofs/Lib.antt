pub mod Extents
pub mod Longest
