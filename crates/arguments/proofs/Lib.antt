pub mod FitLemmas
pub mod Products
pub mod ReadLemmas
