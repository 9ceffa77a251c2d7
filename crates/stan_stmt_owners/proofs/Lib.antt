pub mod Lists
pub mod PutLemmas
