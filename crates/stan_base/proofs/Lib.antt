pub mod LineLemmas
pub mod Orders
pub mod SortLemmas
