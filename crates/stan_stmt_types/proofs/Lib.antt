pub mod ParameterLemmas
pub mod TypeLemmas
