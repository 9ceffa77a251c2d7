pub mod Bytes
pub mod Laws
pub mod Name
pub mod Names
