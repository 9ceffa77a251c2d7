pub mod DefaultLemmas
pub mod LevelLemmas
