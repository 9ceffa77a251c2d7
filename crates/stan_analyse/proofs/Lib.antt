pub mod FactLemmas
pub mod FaultLemmas
pub mod FeedLemmas
pub mod TokenCount
