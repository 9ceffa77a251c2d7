pub mod Fields
pub mod Scalars
