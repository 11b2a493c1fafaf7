pub mod Runs
pub mod Composes
pub mod Simulated
pub mod Read
pub mod Strict
