pub mod FirstLemmas
pub mod TopLemmas
