pub mod InTurn
pub mod CountLemmas
mod NumberLaws
