pub mod HeightLemmas
pub mod WholeLemmas
pub mod FrontLemmas
pub mod CommentLemmas
