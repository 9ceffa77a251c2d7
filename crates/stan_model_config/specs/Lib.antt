-- ---- what one file says
pub mod Paths
pub mod Keys
pub mod Values
pub mod Faults
pub mod Said
-- ---- what a project says
pub mod Files
