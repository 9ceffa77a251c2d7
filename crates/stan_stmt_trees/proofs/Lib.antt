pub mod Depths
pub mod Layers
pub mod TopLayers
