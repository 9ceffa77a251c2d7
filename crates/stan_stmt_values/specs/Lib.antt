pub mod Nests
pub mod Held
