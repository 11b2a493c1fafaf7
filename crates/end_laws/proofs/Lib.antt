pub mod ModuleLaw
pub mod Unread
