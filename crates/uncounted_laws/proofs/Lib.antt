pub mod Types
pub mod Rows
pub mod Once
pub mod Dead
pub mod Sides
pub mod Whole
