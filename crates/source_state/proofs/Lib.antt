pub mod Changes
pub mod Looks
pub mod Loops
pub mod Maps
pub mod NameLaws
