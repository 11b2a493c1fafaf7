pub mod Closed
pub mod Reading
pub mod Longest
pub mod Sound
pub mod Front
pub mod Means
pub mod Whole
