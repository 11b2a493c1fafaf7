pub mod FewLemmas
pub mod TakeLemmas
