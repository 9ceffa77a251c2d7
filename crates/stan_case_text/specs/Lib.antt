pub mod Cases
pub mod Unread
