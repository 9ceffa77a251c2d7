pub mod Falls
pub mod Parts
