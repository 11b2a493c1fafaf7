pub mod Places
pub mod Lasts
