pub mod Parse
pub mod Tables
pub mod Descent
pub mod Alternatives
