pub mod Objects
pub mod Counts
pub mod Slots
pub mod Reserved
pub mod Kept
pub mod Sound
pub mod Tables
