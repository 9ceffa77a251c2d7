pub mod FormLemmas
pub mod TokenLemmas
