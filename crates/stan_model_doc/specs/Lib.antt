-- ---- the comment
pub mod Comment
pub mod Tokens
-- ---- the grammar
pub mod Symbols
pub mod Rules
pub mod Trees
pub mod Grammar
-- ---- which front is read
pub mod Choices
pub mod Depth
pub mod Fronts
-- ---- the whole comment
pub mod Doc
