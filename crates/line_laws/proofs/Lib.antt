pub mod Places
pub mod Ends
pub mod Stand
pub mod One
pub mod Splits
pub mod Bare
pub mod NoneMade
