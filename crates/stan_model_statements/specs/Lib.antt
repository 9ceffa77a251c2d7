-- ---- the grammar
pub mod Kinds
pub mod Symbols
pub mod Rules
-- ---- trees by productions
pub mod Forests
pub mod Grammar
pub mod Takes
pub mod Tops
-- ---- trees as the rest of the model reads them
pub mod Trees
pub mod TreeLists
pub mod Depth
