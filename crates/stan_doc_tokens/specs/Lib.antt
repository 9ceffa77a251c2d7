-- ---- what functions inside promise each other
pub mod Quotes
pub mod Reading
pub mod Tables
