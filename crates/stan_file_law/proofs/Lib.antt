pub mod Depths
pub mod Parts
pub mod Same
pub mod Shapes
