pub mod Written
pub mod PlaceLemmas
pub mod InTurn
