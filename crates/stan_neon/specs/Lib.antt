pub mod Reading
pub mod Reader
pub mod Blocks
pub mod Texts
pub mod Stops
pub mod Laws
