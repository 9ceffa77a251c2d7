pub mod Numbers
pub mod Quotes
pub mod Scalars
pub mod Read
pub mod ReadNode
