pub mod Gives
pub mod Parse
