pub mod Halved
pub mod Covered
