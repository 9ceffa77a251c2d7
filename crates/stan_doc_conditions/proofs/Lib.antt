pub mod BracketLemmas
pub mod Prefixes
pub mod PartingLemmas
pub mod ConditionLemmas
