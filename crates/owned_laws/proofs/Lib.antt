pub mod Same
pub mod Along
pub mod Blocks
pub mod Whole
