pub mod Tree
pub mod Blocks
pub mod Laws
