pub mod Spread
pub mod Composed
