pub mod Brackets
pub mod Conditions
