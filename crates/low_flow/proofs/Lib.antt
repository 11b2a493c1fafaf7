pub mod Membership
pub mod InverseLemmas
pub mod SearchLemmas
pub mod PathLemmas
pub mod AboveLemmas
