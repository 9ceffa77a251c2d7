pub mod FreeLemmas
pub mod ListLemmas
