pub mod PickLemmas
pub mod FrontLemmas
pub mod FileLemmas
