pub mod Same
pub mod Facts
pub mod Lone
pub mod PlainRows
pub mod Awaits
pub mod Calls
pub mod Whole
