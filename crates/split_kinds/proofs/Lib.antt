pub mod Passing
pub mod Made
pub mod Walk
pub mod Fits
pub mod Whole
