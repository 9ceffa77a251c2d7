pub mod Joined
pub mod ScalarTexts
