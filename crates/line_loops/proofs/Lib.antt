pub mod Tasks
pub mod Whole
