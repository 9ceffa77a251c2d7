pub mod ChoiceLemmas
pub mod ChosenLemmas
pub mod ListLemmas
pub mod ProjectLemmas
pub mod ReportLemmas
pub mod RunLemmas
pub mod SourceLemmas
pub mod WritingLemmas
