pub mod Half
pub mod Counts
pub mod Laws
