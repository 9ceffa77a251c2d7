pub mod Filters
pub mod Normals
pub mod Placing
