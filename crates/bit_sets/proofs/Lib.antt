pub mod WordLemmas
pub mod SetLemmas
