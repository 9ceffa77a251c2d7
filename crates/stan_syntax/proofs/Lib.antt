pub mod Depths
pub mod ExitLemmas
pub mod Layers
pub mod TargetLemmas
