pub mod MadeLemmas
pub mod SkipLemmas
