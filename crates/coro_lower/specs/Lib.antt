pub mod Layout
pub mod Registers
pub mod Rows
pub mod Shape
