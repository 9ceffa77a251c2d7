-- what the public contracts rest on
pub mod Tree
pub mod Tags
