pub mod Values
pub mod Captures
pub mod Names
pub mod Places
