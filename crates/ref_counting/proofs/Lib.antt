pub mod OrderLemmas
pub mod LiveLemmas
