pub mod Free
pub mod Captures
