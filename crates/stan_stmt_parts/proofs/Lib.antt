pub mod Singles
pub mod Turns
pub mod KindLemmas
pub mod Options
