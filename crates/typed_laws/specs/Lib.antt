pub mod Ranges
pub mod Typed
