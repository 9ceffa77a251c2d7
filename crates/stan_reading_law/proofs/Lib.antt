pub mod Fronts
pub mod Unique
pub mod Existence
