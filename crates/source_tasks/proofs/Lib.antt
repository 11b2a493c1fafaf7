pub mod Puts
pub mod Caught
pub mod Marks
pub mod UseLemmas
pub mod Spans
pub mod Posed
pub mod Tables
