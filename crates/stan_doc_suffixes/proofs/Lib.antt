pub mod Callables
pub mod Suffixes
