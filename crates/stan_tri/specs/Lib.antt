pub mod Tri
