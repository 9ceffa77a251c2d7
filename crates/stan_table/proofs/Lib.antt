pub mod FirstPlaces
pub mod Folding
