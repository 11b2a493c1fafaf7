pub mod Regions
pub mod Taken
