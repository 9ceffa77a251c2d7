-- What the public contracts rest on.
pub mod Views
-- What functions inside promise each other.
pub mod Parts
