pub mod Lists
pub mod Marks
pub mod Above
pub mod Paths
