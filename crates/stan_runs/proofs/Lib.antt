mod FixedLemmas
pub mod NumberLemmas
pub mod RunLemmas
