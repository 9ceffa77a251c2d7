-- what the public contracts rest on
pub mod Tree
-- what functions inside promise each other
pub mod Depth
pub mod Exit
pub mod Targets
