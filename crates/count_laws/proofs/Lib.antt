pub mod OrderLemmas
pub mod NumberLemmas
pub mod RowLemmas
pub mod EndLemmas
pub mod StartLemmas
