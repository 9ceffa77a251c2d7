pub mod Merging
pub mod Standing
