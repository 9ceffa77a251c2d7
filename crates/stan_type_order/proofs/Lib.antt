pub mod Deciding
pub mod Encodings
