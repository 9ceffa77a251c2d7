pub mod EndLemmas
pub mod TokenLemmas
pub mod FrontLemmas
pub mod ReadingLemmas
