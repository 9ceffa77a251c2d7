pub mod Choices
pub mod Greedy
pub mod InsideLemmas
pub mod Tables
