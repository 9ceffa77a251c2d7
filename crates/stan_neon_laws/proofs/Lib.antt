pub mod PlainTextLemmas
pub mod QuotingLemmas
