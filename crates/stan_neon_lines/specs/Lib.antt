pub mod Entries
pub mod Feed
pub mod Rest
pub mod Lines
pub mod Pair
pub mod Content
