pub mod Made
pub mod Blocks
pub mod Halves
pub mod Loops
