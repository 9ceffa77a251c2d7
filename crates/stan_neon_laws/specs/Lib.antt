pub mod Laws
pub mod PlainTexts
pub mod Quoting
