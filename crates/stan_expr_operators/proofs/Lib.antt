pub mod BranchLemmas
pub mod MadeLemmas
pub mod StrataLemmas
