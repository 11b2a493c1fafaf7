pub mod Fits
pub mod Laws
pub mod Rows
pub mod Silent
