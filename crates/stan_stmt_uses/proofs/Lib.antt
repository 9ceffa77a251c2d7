pub mod ItemLemmas
pub mod PickLemmas
