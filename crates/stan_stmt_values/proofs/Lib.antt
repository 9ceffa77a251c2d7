pub mod ExpressionLemmas
pub mod BodyLemmas
pub mod Layers
pub mod WordLemmas
