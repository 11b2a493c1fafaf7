pub mod Values
pub mod Regions
pub mod Kept
pub mod Launched
pub mod Above
pub mod Placed
pub mod Whole
