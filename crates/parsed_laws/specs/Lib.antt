pub mod Arguments
pub mod Levels
pub mod Runs
pub mod Texts
