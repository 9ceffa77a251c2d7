pub mod Facts
pub mod Faults
pub mod Lines
pub mod Reading
