pub mod Wholes
pub mod Fronts
pub mod Readings
