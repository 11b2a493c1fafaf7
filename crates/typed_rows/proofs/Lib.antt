pub mod Places
pub mod Envs
pub mod Rows
pub mod Fits
pub mod Whole
