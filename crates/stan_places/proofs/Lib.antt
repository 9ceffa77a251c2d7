pub mod BraceLemmas
pub mod Loops
pub mod PlaceLemmas
