pub mod State
pub mod Rules
pub mod Texts
pub mod Named
