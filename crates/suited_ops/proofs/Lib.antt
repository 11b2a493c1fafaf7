pub mod Known
pub mod KindLemmas
pub mod Ops
pub mod Whole
