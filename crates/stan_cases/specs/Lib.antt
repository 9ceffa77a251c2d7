pub mod Played
pub mod Wanted
