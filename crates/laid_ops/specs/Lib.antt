pub mod Suited
pub mod Laws
