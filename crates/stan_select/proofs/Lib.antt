pub mod ListLemmas
pub mod NameLemmas
pub mod LookupLemmas
pub mod SelectionLemmas
pub mod Existence
