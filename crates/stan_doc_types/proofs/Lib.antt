pub mod Arrays
pub mod Parting
pub mod Further
