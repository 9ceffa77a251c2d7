-- What the public contracts rest on.
pub mod Paths
pub mod Choice
pub mod Selection
pub mod Laws
-- What functions inside promise each other.
pub mod Names
pub mod Lookups
