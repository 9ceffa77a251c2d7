pub mod Lists
pub mod Widest
