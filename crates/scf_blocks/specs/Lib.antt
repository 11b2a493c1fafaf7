pub mod Tree
pub mod Code
pub mod Lowered
pub mod Scopes
pub mod Bodies
