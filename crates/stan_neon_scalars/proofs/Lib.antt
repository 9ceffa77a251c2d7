pub mod QuoteLemmas
pub mod NumberLemmas
pub mod Utf8Lemmas
pub mod PlainLemmas
pub mod ItemLemmas
