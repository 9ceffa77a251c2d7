pub mod Turns
pub mod Productions
