-- ---- what holds of every text
pub mod Laws
-- ---- what functions inside promise each other
pub mod Runs
pub mod Fronts
pub mod Spans
