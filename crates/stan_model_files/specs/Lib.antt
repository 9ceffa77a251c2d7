-- ---- trees by productions
pub mod Shapes
pub mod Put
-- ---- files
pub mod Files
pub mod Owners
