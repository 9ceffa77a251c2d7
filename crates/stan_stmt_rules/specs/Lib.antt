pub mod Ahead
pub mod Parse
