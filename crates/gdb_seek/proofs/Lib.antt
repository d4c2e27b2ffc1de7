pub mod Unread
pub mod PartsRead
