pub mod ListLemmas
pub mod PickLemmas
