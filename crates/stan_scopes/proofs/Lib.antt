pub mod LastPart
pub mod UseLemmas
