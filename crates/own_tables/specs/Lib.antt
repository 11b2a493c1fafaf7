pub mod Numbers
pub mod Owns
