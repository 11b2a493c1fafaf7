pub mod MessageLemmas
pub mod NoteLemmas
pub mod FoundNotes
pub mod Chains
