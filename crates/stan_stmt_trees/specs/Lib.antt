-- what the public contracts rest on
pub mod Tree
pub mod Files
-- what functions inside promise each other
pub mod Depth
